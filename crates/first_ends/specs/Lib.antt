pub mod FirstEnds
pub mod steps
