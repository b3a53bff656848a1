-- What is calculated of a database without tables, and of one router.
use Rattle.std.proofs.Common.{◌≡◌, ℕ, ◌+◌, Bool, true, false, cond, List, [], ◌∷◌, ◌++◌, map, Option, None, Some, refl, sym, ap, subst, ◌∙◌, arith}
use Rattle.std.specs.Prelude.{◌==◌, ◌||◌}
use Rattle.std.specs.Cmp.{Equal-is}
use Rattle.std.specs.List.{list_any, sum_by}
use Rattle.std.specs.Ordering.{eq_by_cmp}
use Rattle.std.proofs.lemmas.List.{append-nil}
use Rattle.lsa_codec.specs.Order.{router_cmp}
use Rattle.lsa_codec.specs.declared.address.RouterId.{RouterId}
use Rattle.lsa_codec.proofs.OrderLemmas.{router_exact}
use Rattle.lsdb.specs.Lists.{Lists}
use Rattle.routing_table.specs.Routers.{attached_routers}
use Rattle.forwarding.specs.Graphs.{routers_of, routes_at}
use Rattle.forwarding.specs.Matches.{RouterValue, router_in}
use Rattle.hop_ends.specs.Owners.{AreGraphsOf, GraphsValue}
use Rattle.lost_routes.specs.Announced.{AnnouncedValue, announced_in}
use Rattle.change_lines.specs.ChangeTexts.{ChangesValue}
use Rattle.change_lines.specs.Groups.{by_group}
use Rattle.change_lines.specs.declared.change_name.ChangeName.{ChangeName}
use Rattle.comparison.specs.Compared.{Compared, IsOutline}
use Rattle.comparison.specs.Named.{changes_for, names_by, names_of, unchanged_by, unchanged_of}
use Rattle.comparison.proofs.Steps.{equal_routers}

-- names by group, and a number
abbrev pub as_changes : List ChangeName → ℕ → ChangesValue
as_changes names unchanged = record { names = by_group names; unchanged = unchanged }

-- graphs of a database and its announced prefixes, by the database that the graphs are beside
pub outline : (db : Lists) (graphs : GraphsValue) (announced : AnnouncedValue) → AreGraphsOf db graphs → announced ≡ announced_in db
    → IsOutline graphs.db graphs announced
outline db graphs announced are is =
    subst (λ (d : Lists). IsOutline d graphs announced) (sym are.database) (record { are_graphs = are; is_announced = is })

-- the router is one of these
abbrev is_one_of : RouterId → List RouterId → Bool
is_one_of router others = list_any (λ (other : RouterId). router.0 == other.0) others

-- the routes of a router among those of some
pub routes_among : (db : Lists) (router : RouterId) (ids : List RouterId)
    → routes_at (map (router_in db) ids) router
    ≡ cond (list_any (λ (other : RouterId). router.0 == other.0) ids) (Some (router_in db router)) None
routes_among db router [] = refl
routes_among db router (id ∷ ids) = by (eq_by_cmp router_cmp router id) refl (routes_among db router ids)
  where
    by : (b : Bool) → eq_by_cmp router_cmp router id ≡ b
        → routes_at (map (router_in db) ids) router ≡ cond (is_one_of router ids) (Some (router_in db router)) None
        → cond b (Some (router_in db id)) (routes_at (map (router_in db) ids) router)
        ≡ cond ((router.0 == id.0) || is_one_of router ids) (Some (router_in db router)) None
    by true same others =
        ap (λ (r : RouterId). Some (router_in db r)) (sym (router_exact router id ((Equal-is (router_cmp router id)).0 same)))
        ∙ ap (λ (b : Bool). cond (b || is_one_of router ids) (Some (router_in db router)) None) (sym (equal_routers router id ∙ same))
    by false same others = others ∙ ap (λ (b : Bool). cond (b || is_one_of router ids) (Some (router_in db router)) None) (sym (equal_routers router id ∙ same))

module _ (db : Lists) (router : RouterId) (ids : List RouterId) (are : ids ≡ attached_routers db) where
  by_test : (among : Bool) → list_any (λ (other : RouterId). router.0 == other.0) ids ≡ among
      → cond among (Some (router_in db router)) None ≡ routes_at (routers_of db) router
  by_test among is =
      sym (routes_among db router ids ∙ ap (λ (b : Bool). cond b (Some (router_in db router)) None) is)
      ∙ ap (λ (l : List RouterId). routes_at (map (router_in db) l) router) are

  -- those of a router that is attached, and of one that is not
  pub attached_routes : list_any (λ (other : RouterId). router.0 == other.0) ids ≡ true → Some (router_in db router) ≡ routes_at (routers_of db) router
  attached_routes is = by_test true is

  pub no_routes : list_any (λ (other : RouterId). router.0 == other.0) ids ≡ false → None ≡ routes_at (routers_of db) router
  no_routes is = by_test false is

-- a database beside its baseline
abbrev pub beside : Lists → Lists → Compared
beside before now = record { baseline = before; present = now }

pub both_are : (before now : Lists) (were are : GraphsValue) → AreGraphsOf before were → AreGraphsOf now are → beside were.db are.db ≡ beside before now
both_are before now were are of_before of_now =
    ap (λ (d : Lists). beside d are.db) of_before.database ∙ ap (λ (d : Lists). beside before d) of_now.database

one_sum : (f : RouterId → ℕ) (router : RouterId) → f router ≡ sum_by f (router ∷ [])
one_sum f router = omega arith

-- what differs for one router
pub for_one : (c both : Compared) (router at : RouterId) (was is : Option RouterValue) (names : List ChangeName) (unchanged : ℕ)
    → both ≡ c → at ≡ router → was ≡ routes_at (routers_of c.baseline) router → is ≡ routes_at (routers_of c.present) router
    → names ≡ names_by both at was is → unchanged ≡ unchanged_by both was is → as_changes names unchanged ≡ changes_for c (router ∷ [])
for_one c both router at was is names unchanged same_both same_router was_is is_is are_names are_unchanged =
    ap (λ (l : List ChangeName). as_changes l unchanged)
    (are_names ∙ ap (λ (b : Compared). names_by b at was is) same_both ∙ ap (λ (r : RouterId). names_by c r was is) same_router
    ∙ ap (λ (o : Option RouterValue). names_by c router o is) was_is
    ∙ ap (λ (o : Option RouterValue). names_by c router (routes_at (routers_of c.baseline) router) o) is_is
    ∙ sym (append-nil (names_of c router)))
    ∙ ap (λ (n : ℕ). as_changes (names_of c router ++ []) n)
    (are_unchanged ∙ ap (λ (b : Compared). unchanged_by b was is) same_both ∙ ap (λ (o : Option RouterValue). unchanged_by c o is) was_is
    ∙ ap (λ (o : Option RouterValue). unchanged_by c (routes_at (routers_of c.baseline) router) o) is_is ∙ one_sum (unchanged_of c) router)
