-- The laws of a feed.
pub mod Longest
pub mod Going
pub mod Joined
