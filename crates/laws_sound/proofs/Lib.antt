-- Soundness as propositions, the same as the test; kept by every event; so never refused from start on.
pub mod Paths
pub mod Test
pub mod Stranger
pub mod Closing
pub mod Copying
pub mod Moving
pub mod Groups
pub mod Marking
pub mod Quiet
pub mod WorkSteps
pub mod PathEvents
pub mod Steps
pub mod Lasting
pub mod Starting
pub mod Reached
pub mod Once
