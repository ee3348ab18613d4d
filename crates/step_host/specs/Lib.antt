-- A state with lower 3.0 settled, and what a plain write leaves.
pub mod Settled
