pub mod Documents
pub mod Replies
pub mod Compared
pub mod Outcomes
pub mod Summary
