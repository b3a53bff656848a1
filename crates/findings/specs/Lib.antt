pub mod Order
pub mod Texts
pub mod Lines
pub mod Notices
pub mod Parts
pub mod Reporting
pub mod Contents
