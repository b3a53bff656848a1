pub mod Groups
pub mod ChangeTexts
pub mod PairTexts
