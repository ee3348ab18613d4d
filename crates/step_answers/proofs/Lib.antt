-- What the proofs of the steps cite, and those of the calls above them.
pub mod Answered
pub mod Outcomes
