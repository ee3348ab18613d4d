-- What runs of bytes meet.
pub mod Meets
