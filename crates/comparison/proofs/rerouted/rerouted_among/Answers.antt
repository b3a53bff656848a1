use Rattle.std.proofs.Common.{ap, ◌∙◌}
use Rattle.std.specs.List.{filter}
use Rattle.std.proofs.lemmas.List.{take_all}
use Rattle.next_hops.specs.declared.hop.Hop.TheVariants.{Connected}
use Rattle.comparison.specs.Rerouted.{is_rerouted}
use Rattle.comparison.proofs.Steps.{kept}
use Rattle.comparison.proofs.rerouted.rerouted_among.Goals as goal

pub loop-hop-preserved : goal.loop-hop-preserved
loop-hop-preserved g c =
    kept c.args.hops.now c.loop-hop.hop-index Connected c.loop-hop-test.true (is_rerouted c.args.both.now c.args.router)
    c.loop-hop.found.items _ c.in_ok-moved.moved c.loop-hop.invariant c.in_ok-moved.ensures c.in_ok-push_if.ensures

pub returns : goal.returns
returns g c =
    c.loop-hop.invariant
    ∙ ap (filter (is_rerouted c.args.both.now c.args.router)) (take_all c.loop-hop.hop-index c.args.hops.now c.loop-hop-test.false)
