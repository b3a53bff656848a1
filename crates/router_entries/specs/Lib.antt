pub mod Entries
pub mod OwnExternals
pub mod steps
