pub mod Split
pub mod Spelled
pub mod OptionLemmas
pub mod PartLemmas
pub mod NumberLemmas
pub mod HexLemmas
pub mod AddressLemmas
pub mod WordLemmas
