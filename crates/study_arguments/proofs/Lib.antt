pub mod EachWord
pub mod ArgumentLemmas
