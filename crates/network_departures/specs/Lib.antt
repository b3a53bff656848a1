pub mod Leaving
pub mod Successors
pub mod LinksAfter
