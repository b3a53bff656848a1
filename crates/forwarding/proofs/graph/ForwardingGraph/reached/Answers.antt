use Rattle.std.proofs.Common.{◌∙◌, ◌++◌, List, sym, ap, arith}
use Rattle.std.proofs.lemmas.Bool.{eqb-true}
use Rattle.lsa_codec.specs.declared.address.RouterId.{RouterId}
use Rattle.forwarding.specs.steps.Levels.{next_level}
use Rattle.forwarding.proofs.Rounded.{no_items, search_done, search_first, search_more}
use Rattle.forwarding.proofs.graph.ForwardingGraph.reached.Goals as goal

pub levels-init : goal.levels-init
levels-init g c =
    search_first c.args.self.now c.args.start c.new-reached.result.items c.new-seen.result.keys c.in_ok-level.level.items
    c.new-reached.ensures.items c.new-seen.ensures.empty c.in_ok-level.ensures.items

pub levels-preserved : goal.levels-preserved
levels-preserved g c =
    search_more c.args.self.now c.args.start c.levels.reached.items c.levels.seen.keys c.levels.level.items
    c.visit.new.reached.items c.visit.new.seen.keys c.in_ok-level-2.level.items c.levels.invariant
    (c.in_ok-visit.ensures.reached ∙ ap (λ (l : List RouterId). c.levels.reached.items ++ l) c.deref.ensures.value)
    (c.in_ok-visit.ensures.seen c.levels.invariant.set)
    (c.in_ok-level-2.ensures ∙ ap (next_level c.args.self.now c.visit.new.seen.keys) c.deref-in-levels.ensures.value)

pub returns : goal.returns
returns g c =
    let none = eqb-true _ _ (sym c.is_empty.ensures ∙ c.levels-test.false) in
    search_done c.args.self.now c.args.start c.levels.reached.items c.levels.seen.keys c.levels.level.items c.levels.invariant
    (no_items c.levels.level.items (omega (arith, none, c.levels.level.ok.0)))
