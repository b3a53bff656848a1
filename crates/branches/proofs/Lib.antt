pub mod SessionLemmas
pub mod KeptBase
pub mod BranchSessions
pub mod PlannersByNumber
pub mod AllTables
pub mod RefusedCommands
pub mod AcceptedEdits
pub mod MovedBack
