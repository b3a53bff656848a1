-- What private contracts cite: the steps of the code.
pub mod Lines
pub mod Parts
