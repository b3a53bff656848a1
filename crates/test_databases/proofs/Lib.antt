pub mod Moves
pub mod Pushed
pub mod Meant
