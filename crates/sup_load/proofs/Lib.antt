pub mod Counting
pub mod Replies
