pub mod Rules
pub mod Drafts
pub mod InOrder
pub mod Views
pub mod Within
pub mod Between
