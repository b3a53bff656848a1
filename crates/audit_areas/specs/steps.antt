-- Definitions that only private functions and types cite.
pub mod Graphs
pub mod Ends
