pub mod Found
pub mod Kinds
pub mod Boundary
pub mod Orphans
pub mod Undescribed
