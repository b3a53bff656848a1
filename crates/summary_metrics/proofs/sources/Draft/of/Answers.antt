use Rattle.std.proofs.Common.{ℕ, [], ◌∷◌, List, map, sym, subst}
use Rattle.std.proofs.lemmas.Iterator.Consumers.{YieldsList-end, YieldsList-from_first}
use Rattle.std.proofs.lemmas.List.{map-append}
use Rattle.summary_metrics.specs.BackboneSummaries.{AreAnnounced}
use Rattle.summary_metrics.proofs.sources.Draft.of.Goals as goal

pub loop-lsa-preserved : goal.loop-lsa-preserved
loop-lsa-preserved g c =
    let P : List (List ℕ) → Type 0 = λ lsas. AreAnnounced lsas c.add.new.self in
    subst P (sym (map-append (λ lsa. lsa.now) c.loop-lsa.yielded (c.in-Some.lsa ∷ [])))
    (c.in_ok-add.ensures (map (λ lsa. lsa.now) c.loop-lsa.yielded) c.loop-lsa.invariant)

pub returns : goal.returns
returns g c =
    let seen = YieldsList-end (YieldsList-from_first (λ lsa. lsa.now) (λ lsas. lsas) c.args.lsas c.into_iter-lsa-iterator.ensures.into_iter_gives)
    c.loop-lsa.yielded _ c.loop-lsa.yielded_by _ _ c.in-None.is c.next.ensures.steps in
    let P : List (List ℕ) → Type 0 = λ lsas. AreAnnounced lsas c.loop-lsa.summaries in
    subst P seen.0 c.loop-lsa.invariant
