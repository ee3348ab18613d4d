-- A run over records that lie in a row.
pub mod Running
