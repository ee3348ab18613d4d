-- What the check of a record is made of, and the numbers of kinds and editions.
pub mod Clear
pub mod Edition
pub mod Kind
