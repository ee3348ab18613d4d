-- Cases of the night file's editions.
pub mod Editions
