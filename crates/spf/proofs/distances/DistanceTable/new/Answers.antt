use Rattle.spf.proofs.distances.DistanceTable.new.Goals as goal

pub returns : goal.returns
returns g c = c.in_ok-numbers.ensures.items_if_clones_equal (λ n same. same)
