pub mod Commands
pub mod OptionsFaults
