-- The bits of a set's lanes put all at once.
pub mod Together
