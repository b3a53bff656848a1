pub mod LinksOver
pub mod Ways
pub mod Lines
pub mod StepsOver
pub mod Paths
pub mod Passing
pub mod Expected
pub mod steps
