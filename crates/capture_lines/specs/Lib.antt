pub mod Endings
pub mod Reports
