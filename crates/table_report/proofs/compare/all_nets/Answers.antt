use Rattle.std.proofs.Common.{◌++◌, ◌∙◌, sym, ap}
use Rattle.std.proofs.lemmas.List.{map-append}
use Rattle.std.proofs.lemmas.List.Filters.{dedup_is}
use Rattle.area_graph.specs.Rising.{rising}
use Rattle.lsa_codec.specs.Order.{prefix_cmp}
use Rattle.best_ways.specs.Routes.{nets}
use Rattle.lsa_codec.proofs.OrderLemmas.{prefix_exact, prefix_total}
use Rattle.best_ways.proofs.RisingLemmas.{dedup_rising}
use Rattle.table_report.proofs.Differing.{same_prefix}
use Rattle.table_report.proofs.compare.all_nets.Goals as goal

pub returns : goal.returns
returns g c =
    dedup_is _ _ _ c.dedup.ensures.filtered
    ∙ dedup_rising prefix_total prefix_exact same_prefix _ _ c.sort.ensures.permutation c.in_ok-sort.ensures.sorted
    ∙ ap (rising prefix_cmp)
    (c.in_ok-append.ensures.items ∙ ap (λ l. l ++ c.in_ok-more.more.items) c.in_ok-nets.ensures.nets
    ∙ ap (λ l. nets c.args.before.now ++ l) c.in_ok-more.ensures.nets
    ∙ sym (map-append (λ r. r.net) c.args.before.now c.args.now.now))
