use Rattle.std.proofs.Common.{refl, sym, ◌∙◌}
use Rattle.area_graph.proofs.ByKey.{in_use, of_each, one_key}
use Rattle.area_graph.proofs.by_key.lsa_of_vertex.Goals as goal

pub returns : goal.returns
returns g c =
    let one = one_key c.keys_between-keys.result c.next.new.self c.next-2.new.self c.in_ok-noted.noted c.next-2.result c.in_ok-noted.ensures.steps
    (sym c.is_some.ensures ∙ c.if-is_some.false) c.next-2.ensures.steps in
    of_each c.live_at.result _ _ _ _ c.live_at.ensures.at c.live_at.ensures.live c.live_at.ensures.vertex
    (λ lsa at live own. in_use c.args.database.now c.args.section c.args.vertex c.key_range.result.0 c.key_range.result.1 c.keys_between-keys.result
    c.assert_valid.ensures c.keys_between-keys.ensures c.key_range.ensures one _ refl lsa at live own)
