use Rattle.std.proofs.Common.{◌++◌, ◌∙◌, ap}
use Rattle.std.proofs.lemmas.List.Filters.{dedup_is}
use Rattle.area_graph.specs.Rising.{rising}
use Rattle.lsa_codec.specs.Order.{prefix_cmp}
use Rattle.lsa_codec.proofs.OrderLemmas.{prefix_exact, prefix_total}
use Rattle.best_ways.proofs.RisingLemmas.{dedup_rising}
use Rattle.router_entries.specs.Entries.{nets_of}
use Rattle.router_entries.proofs.EntryLemmas.{equal_nets}
use Rattle.table_changes.proofs.table_changes.nets_of_both.Goals as goal

pub returns : goal.returns
returns g c =
    dedup_is _ _ _ c.dedup.ensures.filtered
    ∙ dedup_rising prefix_total prefix_exact equal_nets _ _ c.sort.ensures.permutation c.in_ok-sort.ensures.sorted
    ∙ ap (rising prefix_cmp)
    (c.in_ok-append.ensures.items ∙ ap (λ l. l ++ c.in_ok-more.more.items) c.in_ok-nets.ensures
    ∙ ap (λ l. nets_of c.args.before.now ++ l) c.in_ok-more.ensures)
