pub mod TableChanges
pub mod NestingLemmas
pub mod Nesting
pub mod Whole
pub mod Numbers
