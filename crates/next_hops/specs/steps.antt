-- What the steps of the code do: only contracts within the crate cite these.
pub mod Handed
pub mod Passing
pub mod Renumbered
pub mod Shared
pub mod Storage
pub mod Table
