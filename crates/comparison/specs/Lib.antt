pub mod Compared
pub mod Rerouted
pub mod Named
