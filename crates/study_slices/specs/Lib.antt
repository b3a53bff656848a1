pub mod Ends
pub mod Studied
