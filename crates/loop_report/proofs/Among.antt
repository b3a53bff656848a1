-- The prefixes of entries are among those whose atoms are looked at.
use Rattle.std.proofs.Common.{◌≡◌, Bool, true, false, cond, List, [], ◌∷◌, ◌++◌, Option, None, Some, refl, sym, ap, ◌∙◌}
use Rattle.std.specs.Prelude.{◌||◌, is_some}
use Rattle.std.specs.Ordering.{eq_by_cmp}
use Rattle.std.proofs.lemmas.Bool.{false≢true}
use Rattle.std.proofs.lemmas.List.Folds.{list_any-append}
use Rattle.lsa_codec.specs.Order.{prefix_cmp}
use Rattle.lsa_codec.specs.Prefix.{Net}
use Rattle.lsa_codec.specs.declared.address.RouterId.{RouterId}
use Rattle.lsa_codec.proofs.OrderLemmas.{prefix_total}
use Rattle.lsdb.specs.Lists.{Lists}
use Rattle.area_graph.proofs.MemberLemmas.{In, In-flat_map, In-left, In-list_any, In-right, list_any-In}
use Rattle.best_ways.specs.Routes.{nets, route_to}
use Rattle.best_ways.specs.Values.{RouteValue}
use Rattle.best_ways.proofs.RisingLemmas.{any_rising}
use Rattle.forwarding.specs.Graphs.{routers_of}
use Rattle.forwarding.specs.Matches.{MatchValue, RouterValue, entry_by, entry_for, has_net}
use Rattle.loop_report.specs.Atoms.{nets_in_either, nets_of, nets_of_all}

-- ---- entries of a router

none_by : (db : Lists) (router : RouterId) (net : Net) (is_own : Bool) (route : Option RouteValue) → (is_some route || is_own) ≡ false
    → entry_by db router net is_own route ≡ None
none_by db router net is_own (Some route) h = absurd (false≢true (sym h))
none_by db router net true None h = absurd (false≢true (sym h))
none_by db router net false None h = refl

has_route_to : (net : Net) (routes : List RouteValue) → is_some (route_to routes net) ≡ has_net (nets routes) net
has_route_to net [] = refl
has_route_to net (r ∷ rs) = by (eq_by_cmp prefix_cmp net r.net) (has_route_to net rs)
  where
    by : (b : Bool) → is_some (route_to rs net) ≡ has_net (nets rs) net → is_some (cond b (Some r) (route_to rs net)) ≡ (b || has_net (nets rs) net)
    by true rest = refl
    by false rest = rest

-- a router has no entry for a prefix that is none of its entries
no_entry : (db : Lists) (r : RouterValue) (net : Net) → has_net (nets_of r) net ≡ false → entry_for db r net ≡ None
no_entry db r net h =
    none_by db r.router net (has_net r.own net) (route_to r.routes net)
    (ap (λ (b : Bool). b || has_net r.own net) (has_route_to net r.routes)
    ∙ sym (list_any-append (eq_by_cmp prefix_cmp net) (nets r.routes) r.own) ∙ h)

-- ---- entries of all routers

module _ (was is : Lists) (net : Net) where
  abbrev both : List Net
  both = nets_of_all (routers_of was) ++ nets_of_all (routers_of is)

  either : (other : Net) → In both other → eq_by_cmp prefix_cmp net other ≡ true → has_net (nets_in_either was is) net ≡ true
  either other i h = any_rising prefix_total net both ∙ In-list_any (eq_by_cmp prefix_cmp net) both other i h

  pub among_was : (r : RouterValue) → In (routers_of was) r → has_net (nets_of r) net ≡ true → has_net (nets_in_either was is) net ≡ true
  among_was r i h =
      let found = list_any-In (eq_by_cmp prefix_cmp net) (nets_of r) h in
      either found.0
      (In-left (nets_of_all (routers_of was)) (nets_of_all (routers_of is)) found.0 (In-flat_map nets_of (routers_of was) r found.0 i found.1)) found.2

  pub among_is : (r : RouterValue) → In (routers_of is) r → has_net (nets_of r) net ≡ true → has_net (nets_in_either was is) net ≡ true
  among_is r i h =
      let found = list_any-In (eq_by_cmp prefix_cmp net) (nets_of r) h in
      either found.0
      (In-right (nets_of_all (routers_of was)) (nets_of_all (routers_of is)) found.0 (In-flat_map nets_of (routers_of is) r found.0 i found.1)) found.2

-- ---- and the other way round, for the entries of a router of either

module _ (db : Lists) (r : RouterValue) (net : Net) (nets : List Net) (among : has_net (nets_of r) net ≡ true → has_net nets net ≡ true) where
  pub not_among : has_net nets net ≡ false → entry_for db r net ≡ None
  not_among none = by (has_net (nets_of r) net) refl
    where
      by : (b : Bool) → has_net (nets_of r) net ≡ b → entry_for db r net ≡ None
      by true h = absurd (false≢true (sym none ∙ among h))
      by false h = no_entry db r net h

  pub has_prefix : (entry : MatchValue) → entry_for db r net ≡ Some entry → has_net nets net ≡ true
  has_prefix entry some = by (has_net (nets_of r) net) refl
    where
      by : (b : Bool) → has_net (nets_of r) net ≡ b → has_net nets net ≡ true
      by true h = among h
      by false h = let none : Some entry ≡ None = sym some ∙ no_entry db r net h in absurd (cc)
