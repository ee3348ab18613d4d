-- Two runs side by side.
pub mod Side
pub mod Links
