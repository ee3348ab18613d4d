-- Tests of eight bytes at once, and what they say of paths.
pub mod Lowest
pub mod Same
pub mod Found
