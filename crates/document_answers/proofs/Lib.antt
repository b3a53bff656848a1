pub mod Asked
pub mod Changed
pub mod Microloops
pub mod Twice
