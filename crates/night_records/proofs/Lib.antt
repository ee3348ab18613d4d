-- The laws of a record.
pub mod Records
