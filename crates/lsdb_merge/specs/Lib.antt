pub mod Joining
pub mod Limits
pub mod steps
