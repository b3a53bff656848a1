pub mod Lines
pub mod Expected
pub mod steps
