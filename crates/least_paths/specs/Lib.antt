pub mod LeastPaths
pub mod steps
