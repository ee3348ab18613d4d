-- The worked cases of the second staged set hold.
pub mod Sets
