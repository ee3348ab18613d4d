-- The night files.
pub mod Files
