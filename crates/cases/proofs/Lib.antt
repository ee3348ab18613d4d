-- The test of equal states.
pub mod Same
