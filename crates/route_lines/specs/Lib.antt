pub mod RouteLines
pub mod RouteTexts
pub mod PathLines
pub mod PathTexts
