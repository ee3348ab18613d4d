-- A flag that is raised on one lane, or on none.
pub mod OneLane
