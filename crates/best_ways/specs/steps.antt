-- Definitions that only the contracts of private functions cite: the steps in which the best ways are built.
pub mod Merge
pub mod KeptAreas
