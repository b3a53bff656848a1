mod LineParts
mod SessionParts
mod ShortLines
pub mod Trailing
pub mod Failing
pub mod Numbers
pub mod Doing
pub mod Lines
pub mod LinesTaken
pub mod LinesAgain
pub mod SessionAgain
pub mod SessionTaken
pub mod RecordEdits
pub mod CanSave
pub mod OpenedEdits
pub mod NoEventLemmas
