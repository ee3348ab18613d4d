-- The laws of a checked file and of a run over records, a night's or a file's.
pub mod EventTurns
pub mod FileTurns
pub mod Good
pub mod Parts
pub mod Turns
