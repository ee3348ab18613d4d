-- Calls of firmware and calls of the registers give the same.
pub mod Through
