pub mod Areas
pub mod LsTypes
pub mod Headers
pub mod Instance
pub mod Order
pub mod Texts
pub mod Newest
pub mod steps
