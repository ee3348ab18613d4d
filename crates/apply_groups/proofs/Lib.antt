-- What the crate's proof cites.
pub mod Laws
