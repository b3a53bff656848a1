-- Definitions that only the contracts of private functions cite: the steps in which the results of areas are built.
pub mod ReachedVertices
pub mod Growing
pub mod Standings
pub mod EntryIndex
pub mod StubCandidates
pub mod OneArea
