pub mod Names
pub mod Values
pub mod ParsedObjects
pub mod Quotes
pub mod Printed
pub mod Rows
pub mod Counted
