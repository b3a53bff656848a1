-- A router that originates no LSA of AS scope announces no external prefix.
use Rattle.std.proofs.Common.{◌≡◌, ◌∙◌, ℕ, Bool, true, false, List, [], ◌∷◌, map, filter, refl, sym, ap}
use Rattle.std.specs.Prelude.{if◌then◌else◌, Option, None, Some, ◌&&◌}
use Rattle.std.specs.List.{cons_option, filter_map}
use Rattle.std.specs.Ordering.{eq_by_cmp, is_eq, nat_cmp}
use Rattle.std.proofs.lemmas.Bool.{eqb-true, false≢true, or_parts}
use Rattle.std.proofs.lemmas.Cmp.{nat_cmp_total, tied_itself}
use Rattle.lsa_codec.specs.Order.{prefix_cmp, router_cmp}
use Rattle.lsa_codec.specs.Prefix.{Net}
use Rattle.lsa_codec.specs.Views.{net_of_lsa}
use Rattle.lsa_codec.specs.declared.address.RouterId.{RouterId}
use Rattle.lsa_codec.proofs.OrderLemmas.{router_total}
use Rattle.lsdb.specs.declared.section.Section.TheVariants.{AsWide}
use Rattle.lsdb.specs.Lists.{Lists, lsas_of}
use Rattle.area_graph.specs.Rising.{rising}
use Rattle.area_routes.specs.Inter.{originator_of, same_router}
use Rattle.best_ways.proofs.RisingLemmas.{any_rising}
use Rattle.external_routes.specs.ExternalLsas.{is_in_use}
use Rattle.forwarding.specs.Matches.{router_in}
use Rattle.forwarding.specs.OwnExternals.{announced}
use Rattle.audit_routers.specs.Linked.{has_router}
use Rattle.audit_routes.specs.OwnExternals.{hides_route, originators_of, own_places, route_places}

-- the order finds routers that are the same
other_router : (a b : RouterId) → eq_by_cmp router_cmp a b ≡ false → same_router b a ≡ false
other_router a b other = by (same_router b a) refl
  where
    by : (t : Bool) → same_router b a ≡ t → same_router b a ≡ false
    by false is = is
    by true is =
        let tied : eq_by_cmp router_cmp a b ≡ true =
        ap (λ (n : ℕ). is_eq (nat_cmp n b.0)) (sym (eqb-true b.0 a.0 is)) ∙ ap is_eq (tied_itself nat_cmp_total b.0) in
        absurd (false≢true (sym other ∙ tied))

none_announced : (router : RouterId) (lsas : List (List ℕ)) → has_router (map originator_of lsas) router ≡ false → filter_map (announced router) lsas ≡ []
none_announced router [] none = refl
none_announced router (lsa ∷ lsas) none =
    let parts = or_parts (eq_by_cmp router_cmp router (originator_of lsa)) (has_router (map originator_of lsas) router) none in
    ap (λ (b : Bool). let o : Option Net = if b && is_in_use lsa then Some (net_of_lsa lsa) else None in cons_option o (filter_map (announced router) lsas))
    (other_router router (originator_of lsa) parts.0)
    ∙ none_announced router lsas parts.1

pub no_own_places : (db : Lists) (router : RouterId) → has_router (originators_of (lsas_of AsWide db)) router ≡ false → own_places (router_in db router) ≡ []
no_own_places db router none =
    let lsas : List (List ℕ) = lsas_of AsWide db in
    ap (λ (own : List Net). route_places router (filter (hides_route (router_in db router)) own))
    (ap (λ (ns : List Net). rising prefix_cmp ns) (none_announced router lsas (sym (any_rising router_total router (map originator_of lsas)) ∙ none)))
