use Rattle.std.proofs.Common.{◌++◌, ◌∙◌, List, ap}
use Rattle.std.proofs.lemmas.Result.{IfOk-weaker}
use Rattle.lsa_codec.specs.Order.{prefix_cmp}
use Rattle.lsa_codec.specs.Prefix.{Net}
use Rattle.area_graph.specs.Rising.{rising}
use Rattle.best_ways.specs.Routes.{nets}
use Rattle.audit_routes.proofs.preferring.nets_of_both.Goals as goal

pub returns : goal.returns
returns g c =
    IfOk-weaker c.rising.result _ _
    (λ v h. h
    ∙ ap (λ (l : List Net). rising prefix_cmp l)
    (c.deref.ensures.value ∙ c.in_ok-append.ensures.items ∙ ap (λ (l : List Net). l ++ c.in_ok-more.more.items) c.in_ok-nets.ensures.nets
    ∙ ap (λ (l : List Net). nets c.args.first.now ++ l) c.in_ok-more.ensures.nets))
    c.rising.ensures
