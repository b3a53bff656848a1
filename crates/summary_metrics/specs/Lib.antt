pub mod Refreshed
pub mod BackboneSummaries
pub mod SummaryMetrics
pub mod steps
