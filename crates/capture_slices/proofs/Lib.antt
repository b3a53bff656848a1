pub mod GivenLists
pub mod Texts
