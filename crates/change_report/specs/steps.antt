-- What the steps of the code do: only contracts within the crate cite these.
pub mod RouterLines
