-- Definitions that only the contracts of private functions cite: the steps in which a graph is
-- built.
pub mod Ranks
pub mod Spans
pub mod Naming
pub mod Drafts
pub mod BackLinks
pub mod KeyRange
pub mod CostRows
