-- The nibbles of a set's lanes.
pub mod Nibbles
