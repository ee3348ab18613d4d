-- The statement of Req 13.
pub mod Links
