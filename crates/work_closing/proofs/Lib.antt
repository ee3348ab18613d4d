-- Sets of lanes, and the closing step from its parts.
pub mod Groups
pub mod Closes
