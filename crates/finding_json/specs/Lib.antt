pub mod Lsas
pub mod Differences
pub mod Findings
