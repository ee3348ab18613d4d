-- That packing and reading back are each other's undoing.
pub mod Records
pub mod Laid
pub mod States
