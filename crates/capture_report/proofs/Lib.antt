mod AreaSets
pub mod Inputs
pub mod Refusals
pub mod Parts
mod PlaceOrder
mod Members
mod OneMore
mod NewerHeaders
