use Rattle.std.proofs.Common.{◌∙◌, [], ◌∷◌, ◌++◌, List, get_or, take, sym, ap}
use Rattle.std.proofs.lemmas.List.{take_all, take_more}
use Rattle.lsa_codec.specs.Order.{area_cmp}
use Rattle.lsa_codec.specs.declared.address.AreaId.{AreaId}
use Rattle.lsa_codec.proofs.OrderLemmas.{area_exact, area_total}
use Rattle.area_graph.specs.Rising.{rising}
use Rattle.best_ways.proofs.RisingLemmas.{rising_append, rising_rising}
use Rattle.audit_routes.proofs.preferring.list_of.Goals as goal

abbrev no_area : AreaId
no_area = record { 0 = 0 }

pub loop-area-preserved : goal.loop-area-preserved
loop-area-preserved g c =
    let areas : List AreaId = c.args.areas.now in
    let i = c.loop-area.area-index in
    let here : AreaId = get_or areas i no_area in
    c.in_ok-add.ensures.added ∙ ap (λ (l : List AreaId). rising area_cmp (l ++ here ∷ [])) c.loop-area.invariant
    ∙ rising_append area_total area_exact (take i areas) (here ∷ [])
    ∙ ap (λ (l : List AreaId). rising area_cmp l) (sym (take_more areas i no_area c.loop-area-test.true))

pub returns : goal.returns
returns g c =
    let areas : List AreaId = c.args.areas.now in
    c.loop-area.invariant ∙ ap (λ (l : List AreaId). rising area_cmp l) (take_all c.loop-area.area-index areas c.loop-area-test.false)
    ∙ rising_rising area_total area_exact areas c.requires
