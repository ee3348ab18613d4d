-- What shows again.
pub mod Shown
