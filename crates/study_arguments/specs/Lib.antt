pub mod Fault
pub mod Positions
pub mod Values
pub mod Arguments
pub mod Lists
pub mod Spelling
