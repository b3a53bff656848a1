pub mod OneMore
pub mod NameSteps
pub mod LineSteps
pub mod FileSteps
pub mod OneAddress
