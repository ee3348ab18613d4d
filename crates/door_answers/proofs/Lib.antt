-- The refusals of start and of a strange state from the code's tests, and what they leave.
pub mod Refused
pub mod Left
