-- What private contracts cite: the steps of the code.
pub mod Lines
pub mod Reading
pub mod Leaving
