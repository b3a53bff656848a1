-- What private contracts cite: the steps of the code.
pub mod Counting
pub mod Carrying
pub mod Texts
pub mod Endings
pub mod Typing
