use Rattle.std.proofs.Common.{ℕ, ◌+◌, ◌<◌, List, length, get_or}
use Rattle.std.proofs.lemmas.List.{get_or_default}
use Rattle.lsa_codec.specs.declared.address.RouterId.{RouterId}
use Rattle.least_paths.specs.declared.least_edge.LeastEdge.{LeastEdge}
use Rattle.area_candidates.proofs.InsertingLemmas.{Inserts, OfFirst, first_all, first_more, first_none}
use Rattle.first_ends.specs.steps.Ends.{IsEndOf}
use Rattle.first_ends.proofs.neighbors.insert_over.Goals as goal

one_more : (Q : LeastEdge → RouterId → Type 0) (xs : List LeastEdge) (i : ℕ) (d : LeastEdge) (old mid new : List RouterId) → i < length xs
    → Inserts (OfFirst Q xs i) old mid → Inserts (Q (get_or xs i d)) mid new → Inserts (OfFirst Q xs (i + 1)) old new
one_more Q xs i d old mid new below was is =
    first_more Q xs i (get_or xs i d) old mid new below (get_or_default xs i d (get_or xs i d) below) was is

pub loop-edge-init : goal.loop-edge-init
loop-edge-init g c = first_none (IsEndOf c.args.router c.args.interface) c.args.edges.now c.args.found.now.keys

pub loop-edge-preserved : goal.loop-edge-preserved
loop-edge-preserved g c =
    one_more (IsEndOf c.args.router c.args.interface) c.args.edges.now c.loop-edge.edge-index _ _ _ _ c.loop-edge-test.true
    c.loop-edge.invariant c.in_ok-insert_end.ensures

pub returns : goal.returns
returns g c =
    first_all (IsEndOf c.args.router c.args.interface) c.args.edges.now c.loop-edge.edge-index c.args.found.now.keys c.loop-edge.found.keys
    c.loop-edge-test.false c.loop-edge.invariant
