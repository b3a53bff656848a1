-- Graphs with the same steps have the same loops.
use Rattle.std.proofs.Common.{List, [], ◌∷◌}
use Rattle.std.specs.List.{Contains}
use Rattle.std.proofs.lemmas.List.Elements.{All-weaker}
use Rattle.lsa_codec.specs.declared.address.RouterId.{RouterId}
use Rattle.forwarding.specs.Walks.{Goes, IsLoopFrom, IsLoopOf, IsWalk}
use Rattle.microloops.specs.Changeover.{AreAllLoops}

abbrev pub HasSteps : (RouterId → List RouterId) → (RouterId → List RouterId) → Type 0
HasSteps one other = (v w : RouterId) → Contains (one v) w → Contains (other v) w

module _ (one other : RouterId → List RouterId) (has : HasSteps one other) where
  walk_has : (us : List RouterId) (v w : RouterId) → IsWalk one v us w → IsWalk other v us w
  walk_has [] v w p = p
  walk_has (u ∷ us) v w p = (has v u p.0, walk_has us u w p.1)

  pub goes_has : (v w : RouterId) → Goes one v w → Goes other v w
  goes_has v w g = (g.0, has v g.0 g.1, (g.2.0, walk_has g.2.0 g.0 w g.2.1))

module _ (one other : RouterId → List RouterId) (has : HasSteps one other) (had : HasSteps other one) where
  loop_of : (v : RouterId) (loop : List RouterId) → IsLoopOf one v loop → IsLoopOf other v loop
  loop_of v loop of = record {
    members = λ w. (
      λ c. (let g = (of.members w).0 c in (goes_has one other has v w g.0, goes_has one other has w v g.1)),
      λ g. (of.members w).1 (goes_has other one had v w g.0, goes_has other one had w v g.1),
    );
    order = of.order;
  }

  pub loop_from : (v : RouterId) (loop : List RouterId) → IsLoopFrom one v loop → IsLoopFrom other v loop
  loop_from v loop from = record { loop_of = loop_of v loop from.loop_of; least = from.least }

-- the loops of one graph are those of the other, where the routers are the same, too
pub same_loops : (one other : RouterId → List RouterId) → HasSteps one other → HasSteps other one → (routers others : List RouterId)
    → ((v : RouterId) → Contains routers v → Contains others v) → ((v : RouterId) → Contains others v → Contains routers v)
    → (loops : List (List RouterId)) → AreAllLoops one routers loops → AreAllLoops other others loops
same_loops one other has had routers others there back loops are = record {
  loops = record {
    each = All-weaker (λ loop. (v : RouterId) × Contains routers v × IsLoopFrom one v loop)
        (λ loop. (v : RouterId) × Contains others v × IsLoopFrom other v loop)
        (λ loop e. (e.0, there e.0 e.1, loop_from one other has had e.0 loop e.2)) loops are.loops.each;
    all = λ v loop c from. are.loops.all v loop (back v c) (loop_from other one had has v loop from);
    order = are.loops.order;
  };
  members = λ v. (λ p. goes_has one other has v v ((are.members v).0 p), λ cycle. (are.members v).1 (goes_has other one had v v cycle));
}
