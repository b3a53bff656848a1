use Rattle.routing_table.proofs.TablePaths.{result_of_reached_vertices, over_all_paths, routes_of_table}
use Rattle.routing_table.proofs.laws.tables_are_over_all_paths.Goals as goal

pub returns-clause-routes : goal.returns-clause-routes
returns-clause-routes c = routes_of_table

pub returns-clause-areas : goal.returns-clause-areas
returns-clause-areas c = result_of_reached_vertices

pub returns-clause-paths : goal.returns-clause-paths
returns-clause-paths c = over_all_paths
