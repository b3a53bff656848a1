pub mod Failures
pub mod Sweeps
pub mod Texts
