pub mod Making
pub mod Relinking
pub mod Networks
