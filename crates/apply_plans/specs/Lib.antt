-- What is known of a group, and what planning has come to.
pub mod Plans
