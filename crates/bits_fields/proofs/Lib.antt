-- Where the field of a lane lies.
pub mod Fits
