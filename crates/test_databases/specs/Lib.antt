pub mod Lines
pub mod Filled
pub mod Edited
