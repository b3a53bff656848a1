pub mod Walked
pub mod LeftOver
pub mod Oldest
