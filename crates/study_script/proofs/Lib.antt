pub mod NewWords
pub mod SameMeaning
pub mod QuestionsAgain
pub mod ConditionsAgain
pub mod LinesAgain
