-- What the inner functions of the codec leave.
pub mod Parts
