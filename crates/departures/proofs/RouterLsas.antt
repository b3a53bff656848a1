-- Which router-LSAs change.
use Rattle.std.proofs.Common.{◌≡◌, ◌≢◌, ℕ, Bool, true, false, not, List, ◌&&◌, ap, ◌∙◌}
use Rattle.std.proofs.lemmas.Bool.{cond-false, cond-true, ne_eqb, eq-eqb}
use Rattle.lsa_codec.specs.declared.address.AreaId.{AreaId}
use Rattle.lsa_codec.specs.Fields.{kind_of}
use Rattle.lsa_codec.specs.Key.{is_at_max_age}
use Rattle.lsdb.specs.Lists.{Lists}
use Rattle.area_graph.specs.Area.{is_live, is_router_lsa}
use Rattle.event_lsas.specs.Outcomes.{kept}
use Rattle.network_departures.specs.declared.departure.Departure.{Departure}
use Rattle.network_departures.specs.LinksAfter.{links_after}
use Rattle.departures.specs.Departures.{relinked_by, originator_of, router_lsa_after}

module _ (db : Lists) (event : Departure) (area : AreaId) (networks : List (List ℕ)) (lsa : List ℕ) where
  -- other LSAs are kept
  pub other_kept : kind_of lsa ≢ 1 → router_lsa_after db event area networks lsa ≡ kept
  other_kept other = cond-false _ _ _ (ap (λ (b : Bool). b && is_live lsa) (ne_eqb (kind_of lsa) 1 other))

  live_router : (b : Bool) → kind_of lsa ≡ 1 → is_at_max_age lsa ≡ b → (is_router_lsa lsa && is_live lsa) ≡ not b
  live_router b kind age =
      ap (λ (is : Bool). is && is_live lsa) (eq-eqb (kind_of lsa) 1 kind) ∙ ap not age

  -- so are those at MaxAge
  pub old_kept : kind_of lsa ≡ 1 → is_at_max_age lsa ≡ true → router_lsa_after db event area networks lsa ≡ kept
  old_kept kind age = cond-false _ _ _ (live_router true kind age)

  -- the others have the links that they have afterwards
  pub relinked : kind_of lsa ≡ 1 → is_at_max_age lsa ≡ false
      → router_lsa_after db event area networks lsa ≡ relinked_by (links_after db event area networks (originator_of lsa) lsa) lsa
  relinked kind age = cond-true _ _ _ (live_router false kind age)
