use Rattle.std.proofs.Common.{◌∙◌, List, ap}
use Rattle.std.specs.List.{filter}
use Rattle.std.proofs.lemmas.Iterator.{items_from_collect}
use Rattle.std.proofs.lemmas.Iterator.Consumers.{YieldsList-from_rest}
use Rattle.std.proofs.lemmas.Result.{IfOk-weaker}
use Rattle.lsa_codec.specs.Order.{prefix_cmp}
use Rattle.lsa_codec.specs.Prefix.{Net}
use Rattle.area_graph.specs.Rising.{rising}
use Rattle.lost_routes.specs.Lost.{lacks}
use Rattle.lost_routes.proofs.GatheredLemmas.{gathers_all}
use Rattle.lost_routes.proofs.lost.missing.Goals as goal

pub returns : goal.returns
returns g c =
    IfOk-weaker c.collect.result _ _
    (λ v h. h ∙ gathers_all _ _ _ c.new-found.ensures.empty c.in_ok-add_missing.ensures
    ∙ ap (λ (nets : List Net). rising prefix_cmp (filter (lacks c.args.is.now) nets)) (c.deref.ensures.value ∙ c.in_ok-nets.ensures))
    (items_from_collect c.collect.result c.collect.ensures.ran (YieldsList-from_rest c.add_missing.new.found.keys c.into_iter.ensures.into_iter_gives.0))
