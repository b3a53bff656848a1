pub mod FoundIn
pub mod Microloops
pub mod RouteConditions
