-- What a case is, its night file, and how it is computed.
pub mod Same
pub mod Case
pub mod Files
pub mod Computed
