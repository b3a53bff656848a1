use Rattle.std.proofs.Common.{sym, ◌∙◌}
use Rattle.std.proofs.lemmas.Result.{on_ok_weaker}
use Rattle.area_graph.proofs.Outranking.{rank_set}
use Rattle.area_graph.proofs.ranks.rank.Goals as goal

pub returns : goal.returns
returns g c =
    on_ok_weaker c.set_rank.result
    (λ is lsas are. rank_set lsas c.args.lsa.now c.key-key.result c.args.ranks.now c.set_rank.new.ranks are c.key-key.ensures c.if-key-ne2.false
    (sym c.exceeds.ensures ∙ c.if-exceeds.false) is)
    c.set_rank.ensures
