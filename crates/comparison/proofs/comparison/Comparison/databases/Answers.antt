use Rattle.std.proofs.Common.{◌∙◌, sym, subst}
use Rattle.lsdb.specs.Slots.{lists_of}
use Rattle.hop_ends.specs.Owners.{AreGraphsOf, GraphsValue}
use Rattle.comparison.proofs.Outlines.{both_are, outline}
use Rattle.comparison.proofs.comparison.Comparison.databases.Goals as goal

pub of-requires-clause-baseline : goal.of-requires-clause-baseline
of-requires-clause-baseline g c =
    let db = lists_of c.self.inside.baseline.now in
    outline db c.graphs.result.now c.self.inside.was_announced
    (subst (λ (v : GraphsValue). AreGraphsOf db v) (sym c.graphs.ensures) c.self.invariant.0.is_forwarding.graphs) c.self.invariant.0.is_announced

pub of-requires-clause-present : goal.of-requires-clause-present
of-requires-clause-present g c =
    let db = lists_of c.self.inside.present.now in
    outline db c.graphs-2.result.now c.self.inside.is_announced
    (subst (λ (v : GraphsValue). AreGraphsOf db v) (sym c.graphs-2.ensures) c.self.invariant.1.is_forwarding.graphs) c.self.invariant.1.is_announced

pub returns : goal.returns
returns g c =
    let before = lists_of c.self.inside.baseline.now in
    let now = lists_of c.self.inside.present.now in
    c.of.ensures
    ∙ both_are before now c.graphs.result.now c.graphs-2.result.now
    (subst (λ (v : GraphsValue). AreGraphsOf before v) (sym c.graphs.ensures) c.self.invariant.0.is_forwarding.graphs)
    (subst (λ (v : GraphsValue). AreGraphsOf now v) (sym c.graphs-2.ensures) c.self.invariant.1.is_forwarding.graphs)
    ∙ c.self.view_is
