pub mod Forgotten
pub mod steps
