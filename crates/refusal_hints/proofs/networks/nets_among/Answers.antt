use Rattle.std.proofs.Common.{◌≡◌, ◌++◌, ◌∙◌, List, get_or, ap}
use Rattle.std.specs.List.{flat_map}
use Rattle.std.proofs.lemmas.List.{take_all}
use Rattle.std.proofs.lemmas.Result.{IfOk-weaker}
use Rattle.lsa_codec.specs.Order.{prefix_cmp}
use Rattle.lsa_codec.specs.Prefix.{Net}
use Rattle.lsa_codec.specs.declared.address.AreaId.{AreaId}
use Rattle.lsdb.specs.Slots.{lists_of}
use Rattle.area_graph.specs.Rising.{rising}
use Rattle.area_routes.proofs.AddsLemmas.{adds_at, flat_map_adds}
use Rattle.refusal_hints.specs.NetworkHints.{nets_in}
use Rattle.refusal_hints.proofs.networks.nets_among.Goals as goal

abbrev no_area : AreaId
no_area = record { 0 = 0 }

pub loop-area-preserved : goal.loop-area-preserved
loop-area-preserved g c =
    let each = nets_in (lists_of c.args.database.now) c.args.router in
    let i = c.loop-area.area-index in
    let before = c.loop-area.nets.items in
    adds_at (flat_map_adds each) (λ l. before ≡ l) (λ l. c.append.new.self.items ≡ l) c.args.areas.now i no_area c.loop-area-test.true c.loop-area.invariant
    (λ l was. c.in_ok-append.ensures.items ∙ ap (λ (more : List Net). before ++ more) c.in_ok-more.ensures
    ∙ ap (λ (those : List Net). those ++ each (get_or c.args.areas.now i no_area)) was)

pub returns : goal.returns
returns g c =
    let each = nets_in (lists_of c.args.database.now) c.args.router in
    IfOk-weaker c.rising.result _ _
    (λ v is. is ∙ ap (rising prefix_cmp) (c.deref.ensures.value ∙ c.loop-area.invariant
    ∙ ap (flat_map each) (take_all c.loop-area.area-index c.args.areas.now c.loop-area-test.false)))
    c.rising.ensures
