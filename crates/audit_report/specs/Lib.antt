pub mod Meanings
pub mod Findings
pub mod Texts
pub mod Expected
