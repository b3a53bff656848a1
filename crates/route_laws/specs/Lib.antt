pub mod BestRoutes
pub mod AllWays
