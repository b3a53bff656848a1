pub mod Kinds
pub mod ParsedFiles
pub mod Dumps
