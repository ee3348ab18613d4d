-- Sets of lanes with a byte for each lane.
pub mod Bytewise
