use Rattle.std.proofs.Common.{◌∙◌, [], ◌++◌, List, Option, sym, ap}
use Rattle.std.specs.BTreeSet.{insert_key}
use Rattle.std.specs.List.{cons_option}
use Rattle.lsa_codec.specs.Order.{prefix_cmp}
use Rattle.lsa_codec.specs.Prefix.{Net}
use Rattle.lsa_codec.proofs.OrderLemmas.{prefix_exact, prefix_total}
use Rattle.area_graph.specs.Rising.{rising}
use Rattle.hop_ends.proofs.RisingMembersLemmas.{insert_last}
use Rattle.forwarding.proofs.own_externals.add_announced.Goals as goal

pub returns-in_ok-insert : goal.returns-in_ok-insert
returns-in_ok-insert g c = λ before from.
    c.in_ok-insert.ensures.keys ∙ ap (λ (l : List Net). insert_key prefix_cmp l c.in-Some.net) from
    ∙ insert_last prefix_total prefix_exact before c.in-Some.net
    ∙ ap (λ (o : Option Net). rising prefix_cmp (before ++ cons_option o [])) (sym c.in-Some.is ∙ c.announced.ensures)
