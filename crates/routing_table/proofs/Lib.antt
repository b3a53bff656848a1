pub mod Firsts
pub mod Preferred
pub mod Counted
pub mod Tabled
pub mod TableLemmas
pub mod AreaLsaLemmas
pub mod Gathered
pub mod Listed
pub mod TablePaths
pub mod MapLemmas
pub mod TreeMaps
pub mod PreferenceLemmas
pub mod KeptMaps
pub mod TreeCounts
pub mod KeptLemmas
mod StubsStay
