pub mod NestingLemmas
pub mod Nesting
