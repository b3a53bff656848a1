pub mod Interfaces
pub mod FarEnds
pub mod Routers
pub mod Networks
