pub mod Fault
pub mod Words
pub mod Names
pub mod Maps
pub mod File
