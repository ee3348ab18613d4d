-- What a byte of the image brings.
pub mod Images
