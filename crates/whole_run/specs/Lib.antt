pub mod Run
pub mod Alone
pub mod Inputs
pub mod Streams
pub mod Order
pub mod WholeRun
pub mod Calls
pub mod steps
