-- The night files, computed.
pub mod Files
