-- The laws of fields, lanes, loops, sets of lanes and words: over bytes and lanes alone, for any place, width and lane.
pub mod Tests
pub mod Number
pub mod Places
pub mod Loops
pub mod Members
pub mod Lanes
pub mod Masks
pub mod Sets
pub mod Turns
pub mod Chains
pub mod Words
