pub mod NoChange
pub mod Ascii
pub mod Bytes
pub mod Joined
pub mod Added
pub mod Differing
pub mod Sameness
