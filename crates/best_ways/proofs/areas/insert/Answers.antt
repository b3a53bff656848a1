use Rattle.std.proofs.Common.{[], ◌∷◌, ◌++◌, ◌∙◌, sym, ap, subst}
use Rattle.std.specs.Cmp.{unsigned_ties}
use Rattle.std.proofs.lemmas.List.Filters.{dedup_is}
use Rattle.area_graph.specs.Rising.{rising}
use Rattle.lsa_codec.specs.Order.{area_cmp}
use Rattle.best_ways.specs.Order.{AreSortedAreas}
use Rattle.lsa_codec.proofs.OrderLemmas.{area_exact, area_total}
use Rattle.best_ways.proofs.RisingLemmas.{dedup_rising, sorted_rising}
use Rattle.best_ways.proofs.areas.insert.Goals as goal

pub returns-clause-added : goal.returns-clause-added
returns-clause-added g c =
    dedup_is _ _ _ c.dedup.ensures.filtered
    ∙ dedup_rising area_total area_exact (λ x y. unsigned_ties x.0 y.0) _ _ c.sort_unstable.ensures.permutation c.sort_unstable.ensures.sorted
    ∙ ap (rising area_cmp) c.in_ok-push.ensures.items

pub returns-clause-sorted : goal.returns-clause-sorted
returns-clause-sorted g c = subst AreSortedAreas (sym (returns-clause-added g c)) (sorted_rising area_total (c.args.areas.now.items ++ c.args.area ∷ []))
