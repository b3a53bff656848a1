use Rattle.std.proofs.Common.{List, length, refl, subst, arith}
use Rattle.std.proofs.lemmas.List.Elements.{All-replicate}
use Rattle.best_ways.specs.Values.{RouteValue}
use Rattle.external_routes.specs.steps.Lookup.{IsPreferred, MarksLengths}
use Rattle.external_routes.proofs.Remembered.{none_preferred}
use Rattle.external_routes.proofs.inside.Inside.new.Goals as goal

pub invariant_of-result : goal.invariant_of-result
invariant_of-result g c = record {
  below = record { routes = c.as_routes-routes.ensures.small; entries = c.as_slice-entries.ensures.small };
  marked = subst (λ (routes : List RouteValue). MarksLengths routes c.lengths.result) c.as_slice.ensures.routes c.lengths.ensures;
  mapped = c.in_ok-map_asbrs.ensures;
  room = refl;
  remembers = All-replicate (IsPreferred c.as_slice-entries.result.now) 256 (length c.as_slice-entries.result.now)
      (none_preferred c.as_slice-entries.result.now (length c.as_slice-entries.result.now) (omega arith));
}
