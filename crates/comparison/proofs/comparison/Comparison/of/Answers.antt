use Rattle.comparison.proofs.comparison.Comparison.of.Goals as goal

pub invariant_of-result : goal.invariant_of-result
invariant_of-result g c = (
  record { is_forwarding = c.in_ok-were.ensures; is_announced = c.in_ok-was_announced.ensures },
  record { is_forwarding = c.in_ok-are.ensures; is_announced = c.in_ok-is_announced.ensures },
)
