use Rattle.std.proofs.Common.{ℕ, ◌++◌, ◌∙◌, List, ap}
use Rattle.std.specs.List.{flat_map}
use Rattle.lsdb.specs.Slots.{lists_of}
use Rattle.area_graph.specs.Area.{used}
use Rattle.area_routes.proofs.AddsLemmas.{flat_map_adds}
use Rattle.link_report.proofs.PushedLemmas.{made_all, made_more}
use Rattle.audit_lsas.specs.declared.naming.Naming.{Naming}
use Rattle.audit_lsas.specs.Undescribed.{namings_by}
use Rattle.audit_lsas.proofs.undescribed.namings_in.Goals as goal

pub loop-vertex-preserved : goal.loop-vertex-preserved
loop-vertex-preserved g c =
    let namings = namings_by (lists_of c.args.database.now) c.args.area in
    made_more (flat_map_adds namings) c.deref-vertex-items.result.now c.loop-vertex.vertex-index c.vertex-item.result c.loop-vertex.namings.items _
    c.loop-vertex-test.true c.vertex-item.is c.loop-vertex.invariant
    (c.in_ok-append.ensures.items
    ∙ ap (λ (l : List Naming). c.loop-vertex.namings.items ++ l) (c.in_ok-more.ensures ∙ ap (λ (lsa : List ℕ). namings lsa) c.lsa.ensures))

pub returns : goal.returns
returns g c =
    let db = lists_of c.args.database.now in
    let namings = namings_by db c.args.area in
    made_all (flat_map_adds namings) c.deref-vertex-items.result.now c.loop-vertex.vertex-index c.loop-vertex.namings.items
    c.loop-vertex-test.false c.loop-vertex.invariant
    ∙ ap (λ (lsas : List (List ℕ)). flat_map namings lsas)
    (c.deref-vertex-items.ensures.value ∙ c.in_ok-used.ensures ∙ ap (λ (lsas : List (List ℕ)). used lsas) c.lsas.ensures.lsas)
