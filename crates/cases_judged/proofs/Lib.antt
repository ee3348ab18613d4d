-- The worked cases of groups, triggers and verdicts, computed.
pub mod Judged
