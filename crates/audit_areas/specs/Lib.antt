pub mod Areas
pub mod Borders
pub mod Groups
pub mod Findings
pub mod steps
