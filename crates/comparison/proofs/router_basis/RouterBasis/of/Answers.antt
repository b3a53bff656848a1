use Rattle.comparison.proofs.router_basis.RouterBasis.of.Goals as goal

pub invariant_of-result : goal.invariant_of-result
invariant_of-result g c = (
  record { are_graphs = c.in_ok-graphs.ensures; is_announced = c.in_ok-announced.ensures },
  c.in_ok-routes.ensures,
)
