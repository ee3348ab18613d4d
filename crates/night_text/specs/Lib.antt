-- Text in a lent buffer.
pub mod Buffer
pub mod Digits
pub mod Lines
