-- The vocabulary of the laws of answers.
pub mod Asked
pub mod Files
pub mod Reading
pub mod Left
pub mod Calls
