-- What a router announces for an external prefix of its own: the first of its LSAs.
use Rattle.std.proofs.Common.{◌≡◌, ℕ, Bool, true, false, cond, List, [], ◌∷◌, ◌++◌, Option, None, Some, refl, sym, ap, ◌∙◌}
use Rattle.std.specs.Prelude.{◌&&◌, ◌||◌, is_some}
use Rattle.std.specs.List.{cons_option, filter_map, list_any}
use Rattle.std.specs.Cmp.{IsTotalOrder}
use Rattle.std.specs.Ordering.{eq_by_cmp}
use Rattle.std.proofs.lemmas.Cmp.{nat_cmp_total, on_total, then_total}
use Rattle.std.proofs.lemmas.List.{append-nil}
use Rattle.std.proofs.lemmas.List.Elements.{filter_map-append}
use Rattle.lsa_codec.specs.Order.{prefix_cmp}
use Rattle.lsa_codec.specs.Prefix.{Net}
use Rattle.lsa_codec.specs.Views.{net_of_lsa}
use Rattle.lsa_codec.specs.declared.address.RouterId.{RouterId}
use Rattle.lsa_codec.proofs.OrderLemmas.{prefix_total}
use Rattle.lsdb.specs.declared.section.Section.TheVariants.{AsWide}
use Rattle.lsdb.specs.Lists.{Lists, lsas_of}
use Rattle.area_graph.specs.Least.{least}
use Rattle.area_routes.specs.Inter.{originator_of, same_router}
use Rattle.best_ways.proofs.LeastLemmas.{least_push}
use Rattle.best_ways.proofs.RisingLemmas.{any_rising}
use Rattle.external_routes.specs.ExternalLsas.{is_in_use}
use Rattle.forwarding.specs.Matches.{has_net}
use Rattle.forwarding.specs.OwnExternals.{announced, own_externals}
use Rattle.router_entries.specs.declared.own_external.OwnExternal.{OwnExternal}
use Rattle.router_entries.specs.OwnExternals.{announced_by, announced_for, own_by, own_cmp, own_external, type_of}
use Rattle.router_entries.specs.steps.First.{first_with}

own_total : IsTotalOrder own_cmp
own_total =
    then_total (on_total type_of nat_cmp_total)
    (then_total (on_total (λ (o : OwnExternal). o.metric) nat_cmp_total) (on_total (λ (o : OwnExternal). o.id.0) nat_cmp_total))

-- ---- one after another

with_one : (found : List OwnExternal) (more : Option OwnExternal) → least own_cmp (found ++ cons_option more []) ≡ first_with (least own_cmp found) more
with_one found None = ap (least own_cmp) (append-nil found)
with_one found (Some more) = least_push own_total found more

pub first_push : {X : Type 0} (f : X → Option OwnExternal) (xs : List X) (x : X)
    → least own_cmp (filter_map f (xs ++ x ∷ [])) ≡ first_with (least own_cmp (filter_map f xs)) (f x)
first_push f xs x = ap (least own_cmp) (filter_map-append f xs (x ∷ [])) ∙ with_one (filter_map f xs) (f x)

-- ---- where there is one

some_least : (found : List OwnExternal) (more : Option OwnExternal)
    → is_some (least own_cmp (cons_option more found)) ≡ (is_some more || is_some (least own_cmp found))
some_least found None = refl
some_least found (Some more) = refl

module _ (router : RouterId) (net : Net) where
  one : (lsa : List ℕ) (others : List Net)
      → list_any (eq_by_cmp prefix_cmp net) (cons_option (announced router lsa) others)
      ≡ (is_some (own_by router net lsa) || list_any (eq_by_cmp prefix_cmp net) others)
  one lsa others = by (same_router (originator_of lsa) router && is_in_use lsa)
    where
      found : (same : Bool) → (same || list_any (eq_by_cmp prefix_cmp net) others)
          ≡ (is_some (cond same (Some (announced_by lsa)) None) || list_any (eq_by_cmp prefix_cmp net) others)
      found true = refl
      found false = refl

      by : (b : Bool) → list_any (eq_by_cmp prefix_cmp net) (cons_option (cond b (Some (net_of_lsa lsa)) None) others)
          ≡ (is_some (cond b (announced_for net lsa) None) || list_any (eq_by_cmp prefix_cmp net) others)
      by true = found (eq_by_cmp prefix_cmp net (net_of_lsa lsa))
      by false = refl

  among : (lsas : List (List ℕ))
      → is_some (least own_cmp (filter_map (own_by router net) lsas))
      ≡ list_any (eq_by_cmp prefix_cmp net) (filter_map (announced router) lsas)
  among [] = refl
  among (lsa ∷ lsas) =
      some_least (filter_map (own_by router net) lsas) (own_by router net lsa)
      ∙ ap (λ (b : Bool). is_some (own_by router net lsa) || b) (among lsas)
      ∙ sym (one lsa (filter_map (announced router) lsas))

pub described : (db : Lists) (router : RouterId) (net : Net) → is_some (own_external db router net) ≡ has_net (own_externals db router) net
described db router net =
    among router net (lsas_of AsWide db) ∙ sym (any_rising prefix_total net (filter_map (announced router) (lsas_of AsWide db)))
