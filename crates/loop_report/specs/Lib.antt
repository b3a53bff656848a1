pub mod Atoms
pub mod Parts
pub mod Loops
pub mod Blackholes
pub mod Reports
pub mod Texts
pub mod steps
