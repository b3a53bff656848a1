use Rattle.std.proofs.Common.{sym, ◌∙◌, ap}
use Rattle.std.proofs.lemmas.Result.{IfOk-weaker}
use Rattle.next_hops.proofs.HopLemmas.{rising-sorted}
use Rattle.area_routes.specs.Reached.{ReachedValue}
use Rattle.area_routes.proofs.reached.Reached.hop_list.Goals as goal

pub returns : goal.returns
returns g c =
    let hops = c.self.inside.hops.now in
    IfOk-weaker c.of.result _ _
    (λ list whole. whole ∙ sym (rising-sorted hops c.self.invariant.sorted) ∙ ap (λ (r : ReachedValue). r.hops) c.self.view_is)
    c.of.ensures
