pub mod OwnExternals
pub mod Matches
pub mod Walks
pub mod Graphs
pub mod steps
