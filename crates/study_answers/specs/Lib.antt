pub mod Answers
pub mod Known
pub mod Areas
pub mod Missing
pub mod Microloops
