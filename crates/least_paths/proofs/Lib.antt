pub mod Parts
pub mod Numbers
pub mod Marking
pub mod Marked
pub mod Pushing
pub mod Rows
pub mod ByDistances
pub mod OnPath
