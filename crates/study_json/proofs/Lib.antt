pub mod Outcomes
pub mod Plain
pub mod Arrays
pub mod Members
pub mod Numberless
pub mod ChangeCounts
pub mod Printed
