-- Worked cases of the second staged set.
pub mod Sets
