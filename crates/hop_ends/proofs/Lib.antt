pub mod RisingMembersLemmas
pub mod Taken
pub mod FirstGraphs
pub mod FarEnds
pub mod FewEnds
pub mod OwnersOver
