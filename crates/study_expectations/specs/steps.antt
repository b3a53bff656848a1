-- Definitions that only the contracts of private functions cite: the steps of the code.
pub mod Verdicts
pub mod Microloops
pub mod Conditions
