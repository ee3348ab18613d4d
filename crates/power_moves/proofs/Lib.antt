-- The module's move, put together from what its parts leave.
pub mod Moves
