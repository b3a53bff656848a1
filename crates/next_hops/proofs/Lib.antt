pub mod HopOrder
pub mod Inserted
pub mod Growing
pub mod PathHops
pub mod Handing
pub mod HopsOf
mod SmallHops
pub mod Sharing
pub mod Keeping
pub mod Adding
pub mod Passages
pub mod Tables
pub mod Renumbering
pub mod HopLemmas
