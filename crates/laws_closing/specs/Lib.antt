-- What it means that a group closes.
pub mod Closing
