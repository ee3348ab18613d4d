-- Where the code of a feed stands.
pub mod Standing
