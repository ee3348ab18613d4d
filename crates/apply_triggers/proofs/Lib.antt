-- What the crate's proofs cite.
pub mod Laws
