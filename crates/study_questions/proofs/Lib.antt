pub mod Logged
pub mod Microloops
pub mod Asked
