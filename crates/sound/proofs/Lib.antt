-- The conditions of soundness as the code asks them of one lane.
pub mod Conditions
