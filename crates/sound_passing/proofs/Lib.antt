-- Tests put together, and the lanes of a group.
pub mod Choices
pub mod Groups
