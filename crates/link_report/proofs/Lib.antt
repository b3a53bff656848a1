pub mod PushedLemmas
mod RisingLists
pub mod NumberedLemmas
mod Takings
mod LinkLengths
mod AreaIds
mod ByKey
mod Costs
mod RouterValues
