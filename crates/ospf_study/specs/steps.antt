-- What private contracts cite: the steps of the code.
pub mod FoundFiles
