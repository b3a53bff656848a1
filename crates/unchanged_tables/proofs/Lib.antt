mod SteadyPaths
mod SteadyEdges
mod SteadyResults
mod SteadySections
mod SteadyTables
mod TreeDistances
mod OneLsa
