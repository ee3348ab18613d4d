-- The laws of a list of events: its admission from the code's tests, and turn by turn.
pub mod Laws
pub mod Admitted
