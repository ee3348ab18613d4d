-- The nibbles of a set's lanes: which bits they are, and what a value put into them leaves.
pub mod Spread
pub mod Merged
