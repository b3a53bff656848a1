pub mod Differences
pub mod DifferenceTexts
