pub mod Texts
pub mod Comparing
pub mod steps
