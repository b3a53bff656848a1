-- Nothing is lost where nothing changes.
use Rattle.std.proofs.Common.{◌≡◌, ◌∙◌, ◌++◌, ◌⊎◌, Bool, true, false, cond, List, [], ◌∷◌, Option, None, Some, inl, inr, map, refl, sym, ap}
use Rattle.std.specs.Prelude.{not}
use Rattle.std.specs.Cmp.{Equal-is}
use Rattle.std.specs.List.{filter, flat_map}
use Rattle.std.specs.Ordering.{eq_by_cmp}
use Rattle.lsa_codec.specs.Order.{router_cmp}
use Rattle.lsa_codec.specs.Prefix.{Net}
use Rattle.lsa_codec.specs.declared.address.RouterId.{RouterId}
use Rattle.lsa_codec.proofs.OrderLemmas.{router_exact}
use Rattle.lsdb.specs.Lists.{Lists}
use Rattle.routing_table.specs.Routers.{attached_routers}
use Rattle.forwarding.specs.Graphs.{routers_of, routes_at}
use Rattle.forwarding.specs.Matches.{RouterValue, router_in}
use Rattle.lost_routes.specs.declared.pairs.RouterPrefix.{RouterPrefix}
use Rattle.lost_routes.specs.Announced.{AnnouncedValue, announced_in, is_announced}
use Rattle.lost_routes.specs.Lost.{LostValue}
use Rattle.lost_routes.specs.LostPairs.{LostPairsValue, lost_by, lost_pairs, lost_since, nothing_lost, pairs_of}
use Rattle.lost_routes.proofs.Present.{none_missing}

nothing_since : (a : AnnouncedValue) (r : RouterValue) → lost_since a a (Some r) r ≡ nothing_lost
nothing_since a r =
    let split : List Net → LostValue = λ nets. record { lost = filter (is_announced a a) nets; gone = filter (λ net. not (is_announced a a net)) nets } in
    ap split (none_missing r)

module _ (db : Lists) where
  -- a router is found as it is in the database, if it is found
  found : (ids : List RouterId) (id : RouterId)
      → (routes_at (map (router_in db) ids) id ≡ None) ⊎ (routes_at (map (router_in db) ids) id ≡ Some (router_in db id))
  found [] id = inl refl
  found (x ∷ ids) id = by (eq_by_cmp router_cmp id x) refl (found ids id)
    where
      by : (b : Bool) → eq_by_cmp router_cmp id x ≡ b
          → (routes_at (map (router_in db) ids) id ≡ None) ⊎ (routes_at (map (router_in db) ids) id ≡ Some (router_in db id))
          → (cond b (Some (router_in db x)) (routes_at (map (router_in db) ids) id) ≡ None)
          ⊎ (cond b (Some (router_in db x)) (routes_at (map (router_in db) ids) id) ≡ Some (router_in db id))
      by true is rest = inr (ap (λ (y : RouterId). Some (router_in db y)) (sym (router_exact id x ((Equal-is (router_cmp id x)).0 is))))
      by false is rest = rest

  abbrev by_db : RouterValue → LostValue
  by_db r = lost_by (announced_in db) (announced_in db) (routers_of db) r

  nothing_by : (id : RouterId) → by_db (router_in db id) ≡ nothing_lost
  nothing_by id = by (routes_at (routers_of db) id) (found (attached_routers db) id)
    where
      by : (o : Option RouterValue) → (o ≡ None) ⊎ (o ≡ Some (router_in db id))
          → lost_since (announced_in db) (announced_in db) o (router_in db id) ≡ nothing_lost
      by o (inl is) = ap (λ (v : Option RouterValue). lost_since (announced_in db) (announced_in db) v (router_in db id)) is
      by o (inr is) =
          ap (λ (v : Option RouterValue). lost_since (announced_in db) (announced_in db) v (router_in db id)) is
          ∙ nothing_since (announced_in db) (router_in db id)

  none : (nets_by : LostValue → List Net) → nets_by nothing_lost ≡ [] → (ids : List RouterId)
      → flat_map (λ r. pairs_of r.router (nets_by (by_db r))) (map (router_in db) ids) ≡ []
  none nets_by empty [] = refl
  none nets_by empty (id ∷ ids) =
      ap (λ (l : List RouterPrefix). l ++ flat_map (λ r. pairs_of r.router (nets_by (by_db r))) (map (router_in db) ids))
      (ap (λ (v : LostValue). pairs_of id (nets_by v)) (nothing_by id) ∙ ap (λ (nets : List Net). pairs_of id nets) empty)
      ∙ none nets_by empty ids

  pub nothing_lost_in : lost_pairs db db ≡ record { lost = []; gone = [] }
  nothing_lost_in =
      let make : List RouterPrefix → List RouterPrefix → LostPairsValue = λ lost gone. record { lost = lost; gone = gone } in
      let gone : List RouterPrefix = flat_map (λ r. pairs_of r.router (by_db r).gone) (routers_of db) in
      ap (λ (l : List RouterPrefix). make l gone) (none (λ v. v.lost) refl (attached_routers db))
      ∙ ap (λ (l : List RouterPrefix). make [] l) (none (λ v. v.gone) refl (attached_routers db))
