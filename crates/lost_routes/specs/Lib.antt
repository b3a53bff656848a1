pub mod Gathering
pub mod Announced
pub mod Lost
pub mod LostPairs
pub mod Announcers
