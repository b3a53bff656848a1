use Rattle.std.specs.List.{Contains}
use Rattle.area_graph.specs.Topology.{IsEdge}
use Rattle.least_paths.proofs.OnPath.{least_same_edges, on_same_edges, start_on_path}
use Rattle.least_paths.proofs.laws.edges_on_least_paths.Goals as goal

pub returns-clause-start : goal.returns-clause-start
returns-clause-start c = λ edges root targets e on. start_on_path (λ f. Contains edges f) root targets e on

pub returns-clause-paths : goal.returns-clause-paths
returns-clause-paths c = λ t edges same root targets e. (
  on_same_edges (IsEdge t) (λ f. Contains edges f) (λ f. (same f).0) (λ f. (same f).1) root targets e,
  on_same_edges (λ f. Contains edges f) (IsEdge t) (λ f. (same f).1) (λ f. (same f).0) root targets e,
)

pub returns-clause-costs : goal.returns-clause-costs
returns-clause-costs c = λ t edges same v w d. (
  least_same_edges (IsEdge t) (λ f. Contains edges f) (λ f. (same f).0) (λ f. (same f).1) v w d,
  least_same_edges (λ f. Contains edges f) (IsEdge t) (λ f. (same f).1) (λ f. (same f).0) v w d,
)
