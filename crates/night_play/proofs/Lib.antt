-- The laws of one record more.
pub mod Records
