pub mod Words
pub mod Arguments
pub mod Fault
pub mod Reading
pub mod Line
pub mod Spelling
