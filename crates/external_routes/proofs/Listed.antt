-- The paths of the AS-external-LSAs in use give the routes that the LSAs give, in any order.
use Rattle.std.proofs.Common.{◌≡◌, ℕ, Bool, true, false, cond, eqb, List, [], ◌∷◌, map, Option, Some, None, refl, sym, ap, ◌∙◌}
use Rattle.std.specs.Prelude.{◌&&◌, ◌||◌, not, nat_lt}
use Rattle.std.specs.List.{cons_option, filter_map, list_any}
use Rattle.std.specs.Option.{option_and_then, option_map_or}
use Rattle.std.proofs.lemmas.List.Sorted.{list_any-IsPermutation}
use Rattle.lsa_codec.specs.declared.address.RouterId.{RouterId}
use Rattle.lsa_codec.specs.Fields.{kind_of}
use Rattle.lsa_codec.specs.Prefix.{Net}
use Rattle.lsa_codec.specs.Views.{forward_of, is_type2_of, metric_of, net_of_lsa, ls_infinity}
use Rattle.lsa_codec.proofs.OrderLemmas.{prefix_exact, prefix_total}
use Rattle.area_graph.specs.Area.{is_live}
use Rattle.best_ways.specs.Candidate.{Candidate}
use Rattle.area_routes.specs.Inter.{originator_of, same_router}
use Rattle.best_ways.specs.Routes.{has_route, route_of, routes_of}
use Rattle.area_routes.specs.Values.{EntryValue}
use Rattle.best_ways.specs.Values.{RouteValue}
use Rattle.best_ways.proofs.WayLemmas.{same_tests}
use Rattle.external_routes.specs.declared.external_lsas.ExternalLsa.{ExternalLsa}
use Rattle.external_routes.specs.Choose.{preferred}
use Rattle.external_routes.specs.External.{external_candidate, path_over}
use Rattle.external_routes.specs.ExternalLsas.{AreExternalLsasOf, external_lsa}
use Rattle.external_routes.specs.steps.Paths.{candidate_of}

-- an LSA of another router, in use, with the tests in another order
in_use : {C : Type 0} (f : ExternalLsa → Option C) (x : ExternalLsa) (path : Option C) (kind live below own : Bool) → f x ≡ cond own None path
    → cond (kind && (live && (below && not own))) path None ≡ option_and_then f (cond (kind && (live && below)) (Some x) None)
in_use f x path true true true true is = sym is
in_use f x path true true true false is = sym is
in_use f x path true true false own is = refl
in_use f x path true false below own is = refl
in_use f x path false live below own is = refl

-- a test of a function's results
any_found : {X Y : Type 0} (f : X → Option Y) (p : Y → Bool) (xs : List X) → list_any p (filter_map f xs) ≡ list_any (λ x. option_map_or p (f x) false) xs
any_found f p [] = refl
any_found {Y = Y} f p (x ∷ xs) = by (f x) (any_found f p xs)
  where
    by : (o : Option Y) → list_any p (filter_map f xs) ≡ list_any (λ x. option_map_or p (f x) false) xs
        → list_any p (cons_option o (filter_map f xs)) ≡ (option_map_or p o false || list_any (λ x. option_map_or p (f x) false) xs)
    by None rest = rest
    by (Some y) rest = ap (λ b. p y || b) rest

module _ (router : RouterId) (routes : List RouteValue) (entries : List EntryValue) where
  abbrev by_lsa : List ℕ → Option (Candidate Net)
  by_lsa = external_candidate router routes entries

  abbrev by_fields : ExternalLsa → Option (Candidate Net)
  by_fields = candidate_of router routes entries

  announces : (lsa : List ℕ) → by_lsa lsa ≡ option_and_then by_fields (external_lsa lsa)
  announces lsa =
      in_use by_fields
      (record {
        net = net_of_lsa lsa;
        router = originator_of lsa;
        is_type2 = is_type2_of lsa;
        metric = metric_of lsa;
        forward = record { 0 = forward_of lsa };
      })
      (cond (has_route routes (net_of_lsa lsa)) None (option_and_then (path_over routes lsa) (preferred entries (originator_of lsa))))
      (eqb (kind_of lsa) 5) (is_live lsa) (nat_lt (metric_of lsa) ls_infinity) (same_router (originator_of lsa) router) refl

  all_announce : (lsas : List (List ℕ)) → filter_map by_lsa lsas ≡ filter_map by_fields (filter_map external_lsa lsas)
  all_announce [] = refl
  all_announce (lsa ∷ lsas) = ap (λ o. cons_option o (filter_map by_lsa lsas)) (announces lsa) ∙ by (external_lsa lsa) (all_announce lsas)
    where
      by : (o : Option ExternalLsa) → filter_map by_lsa lsas ≡ filter_map by_fields (filter_map external_lsa lsas)
          → cons_option (option_and_then by_fields o) (filter_map by_lsa lsas) ≡ filter_map by_fields (cons_option o (filter_map external_lsa lsas))
      by None rest = rest
      by (Some x) rest = ap (λ l. cons_option (by_fields x) l) rest

  pub same_routes : (lsas : List (List ℕ)) (found : List ExternalLsa) → AreExternalLsasOf lsas found
      → routes_of (filter_map by_fields found) ≡ routes_of (filter_map by_lsa lsas)
  same_routes lsas found are =
      ap (map route_of)
      (same_tests prefix_total prefix_exact (filter_map by_lsa lsas) (filter_map by_fields found)
      (λ p. ap (list_any p) (all_announce lsas)
      ∙ any_found by_fields p (filter_map external_lsa lsas)
      ∙ list_any-IsPermutation (λ x. option_map_or p (by_fields x) false) (filter_map external_lsa lsas) found are
      ∙ sym (any_found by_fields p found)))
