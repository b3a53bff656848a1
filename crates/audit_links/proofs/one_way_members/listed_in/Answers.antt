use Rattle.std.proofs.Common.{◌∙◌, ap}
use Rattle.std.specs.List.{flat_map}
use Rattle.std.proofs.lemmas.Result.{IfOk-weaker}
use Rattle.area_graph.specs.Rising.{rising}
use Rattle.audit_links.specs.OneWay.{listed_alone, listed_cmp}
use Rattle.audit_links.proofs.one_way_members.listed_in.Goals as goal

pub returns : goal.returns
returns g c =
    IfOk-weaker c.rising.result _ _
    (λ found is. is
    ∙ ap (rising listed_cmp)
    (c.deref-2.ensures.value ∙ c.in_ok-listed.ensures ∙ ap (flat_map (listed_alone c.args.area.now)) (c.deref.ensures.value ∙ c.in_ok-lsas.ensures)))
    c.rising.ensures
