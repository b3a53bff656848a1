pub mod LiveParts
pub mod LiveLsas
pub mod NoDifferences
