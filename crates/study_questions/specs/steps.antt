-- Definitions that only the contracts of private functions cite: the steps of the code.
pub mod Microloops
pub mod Missing
