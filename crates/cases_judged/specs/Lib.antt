-- The worked cases of groups, triggers and verdicts.
pub mod Judged
