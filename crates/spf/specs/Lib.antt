pub mod Candidates
pub mod Distances
pub mod steps
