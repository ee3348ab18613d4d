-- Laws of the codec: for its own functions, and for those who read lists of settings.
pub mod Parts
pub mod View
