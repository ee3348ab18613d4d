-- The laws of a replay: what the check of a file says of it, and that the room asked for is enough.
pub mod Files
pub mod Room
