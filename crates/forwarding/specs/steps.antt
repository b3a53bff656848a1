-- What the steps of the code do: only contracts within the crate cite these.
pub mod Bases
pub mod Levels
pub mod OnTheWay
pub mod Ending
pub mod Looping
pub mod LoopFree
