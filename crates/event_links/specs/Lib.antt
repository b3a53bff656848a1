pub mod Interfaces
pub mod Selections
pub mod Events
