-- Reads of other addresses, and the end of an access.
pub mod Elsewhere
pub mod Ends
