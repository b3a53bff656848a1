use Rattle.std.proofs.Common.{◌++◌, List, ℕ, ap, ◌∙◌}
use Rattle.std.specs.Prelude.{flat_map}
use Rattle.std.proofs.lemmas.Iterator.Consumers.{YieldsList-end, YieldsList-from_first}
use Rattle.lost_routes.specs.Announcers.{by_area_lsa}
use Rattle.lost_routes.proofs.Announcing.{added}
use Rattle.lost_routes.proofs.announcers.push_area.Goals as goal

pub loop-lsa-preserved : goal.loop-lsa-preserved
loop-lsa-preserved g c =
    added (by_area_lsa c.args.baseline.now) c.args.pairs.now.items c.loop-lsa.yielded c.in-Some.lsa c.loop-lsa.pairs.items _ c.loop-lsa.invariant
    c.in_ok-push_area_lsa.ensures

pub returns : goal.returns
returns g c =
    let seen = YieldsList-end (YieldsList-from_first (λ lsa. lsa.now) (λ lsas. lsas) c.args.lsas c.into_iter-lsa-iterator.ensures.into_iter_gives)
    c.loop-lsa.yielded _ c.loop-lsa.yielded_by _ _ c.in-None.is c.next.ensures.steps in
    c.loop-lsa.invariant ∙ ap (λ (l : List (List ℕ)). c.args.pairs.now.items ++ flat_map (by_area_lsa c.args.baseline.now) l) seen.0
