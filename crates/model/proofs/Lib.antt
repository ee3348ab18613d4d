-- Where descriptors, pages and triggers lie, which flags can last, what every edition keeps to, and laws of the refusals.
pub mod Descriptors
pub mod Lasting
pub mod Editions
pub mod Starts
pub mod States
pub mod Triggers
pub mod Refused
