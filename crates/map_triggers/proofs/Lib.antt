-- Laws of the triggers' places.
pub mod Triggers
