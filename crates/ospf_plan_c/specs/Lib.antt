pub mod Captures
pub mod Plans
pub mod Status
pub mod Studies
