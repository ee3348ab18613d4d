-- What is done to the lanes of a set is not seen on any other lane.
pub mod Owned
pub mod Seeing
pub mod Deciding
pub mod Holding
pub mod Nearness
pub mod Writing
pub mod Working
pub mod Sensing
pub mod Events
pub mod Stepping
pub mod Theorem
