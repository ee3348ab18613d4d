-- What marking has come to.
pub mod Marks
