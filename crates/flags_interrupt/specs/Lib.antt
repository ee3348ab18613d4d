-- The flag bytes against their masks.
pub mod Open
