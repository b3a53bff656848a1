pub mod Options
pub mod Words
pub mod Numbers
pub mod Addresses
