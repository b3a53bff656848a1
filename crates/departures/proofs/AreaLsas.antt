-- What becomes of an LSA of an area, by the tests that come first.
use Rattle.std.proofs.Common.{◌≡◌, ℕ, true, false, List, None, sym, ap, ◌∙◌}
use Rattle.std.proofs.lemmas.Bool.{cond-false, cond-true}
use Rattle.lsa_codec.specs.declared.address.AreaId.{AreaId}
use Rattle.lsdb.specs.Lists.{Lists}
use Rattle.event_lsas.specs.Outcomes.{becomes}
use Rattle.network_departures.specs.declared.departure.Departure.{Departure}
use Rattle.network_departures.specs.Leaving.{router_of, is_left, networks_left}
use Rattle.network_departures.specs.Successors.{network_after}
use Rattle.departures.specs.Departures.{is_of_failed, router_lsa_after, area_lsa_after}

module _ (db : Lists) (event : Departure) (area : AreaId) (lsa : List ℕ) where
  -- the network-LSA of a network that is left
  pub left : is_left db event area lsa ≡ true → area_lsa_after db event area lsa ≡ becomes (network_after db area (router_of event) lsa)
  left is = cond-true _ _ _ is

  -- an LSA of the router that fails
  pub failed : is_left db event area lsa ≡ false → is_of_failed event lsa ≡ true → area_lsa_after db event area lsa ≡ becomes None
  failed stays is = cond-false _ _ _ stays ∙ cond-true _ _ _ is

  -- each other one
  pub other : (networks : List (List ℕ)) → networks ≡ networks_left db event area → is_left db event area lsa ≡ false → is_of_failed event lsa ≡ false
      → area_lsa_after db event area lsa ≡ router_lsa_after db event area networks lsa
  other networks are stays lives =
      cond-false _ _ _ stays ∙ cond-false _ _ _ lives ∙ ap (λ (ns : List (List ℕ)). router_lsa_after db event area ns lsa) (sym are)
