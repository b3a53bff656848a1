pub mod Changes
pub mod InWords
pub mod Swapping
