pub mod FirstHops
pub mod Hop
pub mod steps
