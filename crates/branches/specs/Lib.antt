pub mod Replies
pub mod Branches
