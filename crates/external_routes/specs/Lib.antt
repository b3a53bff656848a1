pub mod Flooding
pub mod Choose
pub mod External
pub mod ExternalLsas
pub mod Summaries
pub mod steps
