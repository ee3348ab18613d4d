-- What a byte of the header brings.
pub mod Headers
