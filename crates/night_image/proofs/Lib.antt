-- The laws of an image that is laid out.
pub mod Images
