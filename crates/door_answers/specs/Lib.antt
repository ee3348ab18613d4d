-- What a call of firmware leaves.
pub mod Door
