pub mod Matches
pub mod Least
