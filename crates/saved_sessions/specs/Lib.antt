pub mod Lines
pub mod Text
pub mod Saved
pub mod Opening
pub mod steps
