pub mod Changeover
pub mod steps
