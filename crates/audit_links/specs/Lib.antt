pub mod Links
pub mod OneWay
pub mod Unequal
pub mod Neighbors
pub mod LinkFindings
pub mod Addresses
