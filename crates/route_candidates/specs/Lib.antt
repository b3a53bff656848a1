pub mod Decided
pub mod RouterViews
pub mod Outside
pub mod Candidates
pub mod Targets
