pub mod ByTree
pub mod Slack
pub mod Steady
pub mod CostChanges
