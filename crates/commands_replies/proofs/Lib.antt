-- The bytes of replies.
pub mod Replies
