pub mod Texts
pub mod WaySteps
pub mod Whole
pub mod steps
