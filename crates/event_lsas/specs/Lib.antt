pub mod Outcomes
pub mod SlotChanges
pub mod LinkEvents
pub mod steps
