mod AreasStay
pub mod ReplacementLemmas
mod RouterLinks
mod Keeping
mod Turns
mod Walked
mod Leads
mod Removals
