-- A night file replayed into a lent buffer.
pub mod Replay
