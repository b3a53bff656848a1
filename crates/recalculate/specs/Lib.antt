pub mod Planning
pub mod Counts
pub mod Reached
pub mod Calls
pub mod Asking
pub mod CallsForTables
