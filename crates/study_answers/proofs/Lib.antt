pub mod JointLoops
pub mod Beginnings
