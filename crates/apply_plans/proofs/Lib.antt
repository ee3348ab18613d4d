-- What the crate's proofs cite.
pub mod Groups
pub mod Laws
