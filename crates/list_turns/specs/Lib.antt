-- A list of events, turn by turn.
pub mod Turns
