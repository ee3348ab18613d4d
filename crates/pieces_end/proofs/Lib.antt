-- Laws of the end.
pub mod Ending
