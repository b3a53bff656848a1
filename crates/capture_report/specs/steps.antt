-- Steps of the code, which no public contract cites.
pub mod Inputs
pub mod Newest
pub mod PlaceOrder
