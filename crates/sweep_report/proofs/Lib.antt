mod Restored
mod Joined
mod LoopCounts
mod Determined
