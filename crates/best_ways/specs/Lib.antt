pub mod Order
pub mod Values
pub mod Candidate
pub mod Best
pub mod InWords
pub mod Routes
pub mod steps
