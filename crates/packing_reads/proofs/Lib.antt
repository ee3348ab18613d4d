-- A test of every lane by its number.
pub mod Every
