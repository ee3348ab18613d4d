-- The night in pieces: stretches of bytes, what is printed however they are cut, the table of what is printed, a file's faults, the last line, soundness.
pub mod Stretches
pub mod Headers
pub mod Streamed
pub mod Pieces
pub mod Leading
pub mod Rows
pub mod Whole
pub mod Faults
pub mod Bad
pub mod Sound
