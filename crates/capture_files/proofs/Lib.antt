mod BlockWalk
mod OptionWalk
mod Records
