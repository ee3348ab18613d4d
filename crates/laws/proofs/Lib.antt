-- The laws of answers: the refusal list of calls and files, what a refusal and a read leave, and that a contract admits one outcome.
pub mod Answered
pub mod Files
pub mod Printed
pub mod Unchanged
pub mod Reading
pub mod Unique
