pub mod Ways
pub mod Owners
pub mod steps
