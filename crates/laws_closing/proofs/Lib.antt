-- Nine work steps at most.
pub mod NineSteps
