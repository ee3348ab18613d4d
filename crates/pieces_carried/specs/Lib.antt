-- What is carried in code.
pub mod Carrying
