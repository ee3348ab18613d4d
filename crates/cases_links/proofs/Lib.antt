-- The runs side by side are what they are said to be.
pub mod Side
pub mod Links
