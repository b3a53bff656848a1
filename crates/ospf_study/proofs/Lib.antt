pub mod FileOptions
pub mod Refusals
pub mod EndNames
pub mod FormatOption
pub mod StandardInput
