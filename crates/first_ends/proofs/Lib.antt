pub mod EdgesTo
pub mod EndsOver
