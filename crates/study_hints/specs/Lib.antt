pub mod Near
pub mod Roles
pub mod Grammar
pub mod Help
pub mod Escaped
pub mod ArgumentHints
pub mod ConditionHints
pub mod Hints
