-- The laws of a feed that goes onward.
pub mod Standing
