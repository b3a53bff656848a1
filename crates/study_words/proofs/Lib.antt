pub mod OneOf
pub mod TextLemmas
