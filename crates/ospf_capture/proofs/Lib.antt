pub mod FileOptions
