pub mod EntryLemmas
mod Matching
mod Matched
mod Own
