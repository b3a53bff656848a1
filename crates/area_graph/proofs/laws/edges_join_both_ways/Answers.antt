use Rattle.area_graph.proofs.JoinLemmas.{Contains-area_edges}
use Rattle.area_graph.proofs.laws.edges_join_both_ways.Goals as goal

pub returns : goal.returns
returns c = Contains-area_edges
