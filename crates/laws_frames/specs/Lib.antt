-- What is said of the bytes that a change leaves alone.
pub mod Frames
pub mod Alike
