pub mod Details
pub mod Fields
pub mod Links
pub mod Changes
pub mod ChangeTexts
