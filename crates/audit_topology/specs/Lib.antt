pub mod RouterTests
pub mod Backbone
pub mod Parts
pub mod Networks
pub mod steps
