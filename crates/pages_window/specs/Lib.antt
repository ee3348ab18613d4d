-- Which bytes show as they are stored.
pub mod Hidden
