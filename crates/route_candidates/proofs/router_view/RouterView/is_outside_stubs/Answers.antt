use Rattle.std.proofs.Common.{◌≡◌, ◌∙◌, Bool, List, [], ◌∷◌, map, refl, ap}
use Rattle.std.specs.Prelude.{◌||◌, not}
use Rattle.std.specs.List.{list_any}
use Rattle.lsa_codec.specs.declared.address.RouterId.{RouterId}
use Rattle.lsdb.specs.Lists.{AreaHead, Lists}
use Rattle.lsdb.specs.Slots.{lists_of}
use Rattle.area_routes.specs.Attached.{attached_areas}
use Rattle.external_routes.specs.Flooding.{is_attached_outside_stubs}
use Rattle.area_candidates.specs.Views.{AreaViewValue, area_view}
use Rattle.route_candidates.specs.RouterViews.{RouterViewValue}
use Rattle.route_candidates.proofs.router_view.RouterView.is_outside_stubs.Goals as goal

-- an area and its view are stub areas alike
alike : (db : Lists) (router : RouterId) (areas : List AreaHead)
    → list_any (λ (v : AreaViewValue). not v.is_stub) (map (area_view db router) areas) ≡ list_any (λ (area : AreaHead). not area.is_stub) areas
alike db router [] = refl
alike db router (area ∷ areas) = ap (λ (b : Bool). not area.is_stub || b) (alike db router areas)

pub returns : goal.returns
returns g c =
    let db = lists_of c.self.inside.database.now in
    let router = c.self.inside.router in
    c.leaves_stubs.ensures
    ∙ ap (list_any (λ (v : AreaViewValue). not v.is_stub)) (c.deref.ensures.value ∙ c.self.invariant.0)
    ∙ alike db router (attached_areas db router)
    ∙ ap (λ (v : RouterViewValue). is_attached_outside_stubs v.db v.router) c.self.view_is
