pub mod PlanText
pub mod Explaining
pub mod Hinted
pub mod Differing
pub mod LinkEdits
pub mod WaySteps
pub mod Carried
