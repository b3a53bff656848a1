-- Routers stay on the networks of network-LSAs alone: other LSAs are of no network.
use Rattle.std.proofs.Common.{◌≡◌, ◌≢◌, ℕ, Bool, true, false, cond, List, [], map, filter, None, sym, ap, ◌∙◌}
use Rattle.std.specs.Prelude.{◌==◌}
use Rattle.std.specs.List.{list_any}
use Rattle.std.proofs.lemmas.Bool.{cond-false, ne_eqb}
use Rattle.lsa_codec.specs.declared.address.AreaId.{AreaId}
use Rattle.lsa_codec.specs.declared.address.RouterId.{RouterId}
use Rattle.lsa_codec.specs.Fields.{kind_of}
use Rattle.lsdb.specs.Lists.{Lists}
use Rattle.lsdb.specs.Slots.{Slot}
use Rattle.interfaces.specs.declared.networks.Member.{Member}
use Rattle.interfaces.specs.Networks.{members_of}
use Rattle.lsa_remaking.specs.declared.link_change.LinkChange.{LinkChange}
use Rattle.lsa_remaking.specs.declared.link_change.LinkChange.TheVariants.{Stays, Removed}
use Rattle.network_departures.specs.Leaving.{staying, stays, is_transit_still}
use Rattle.network_departures.specs.LinksAfter.{link_of_staying, link_to_left}
use Rattle.network_departures.specs.Successors.{redesignated, network_after}

module _ (db : Lists) (area : AreaId) (gone : RouterId) (lsa : List ℕ) (other : kind_of lsa ≢ 2) where
  no_members : members_of db area lsa ≡ []
  no_members = cond-false _ _ _ (ne_eqb (kind_of lsa) 2 other)

  nobody_stays : staying db area gone lsa ≡ []
  nobody_stays = ap (λ (members : List Member). map (λ member. member.router) (filter (stays gone) members)) no_members

  -- there is no network-LSA afterwards
  pub none_after : network_after db area gone lsa ≡ None
  none_after =
      ap (λ (routers : List RouterId). let slot : Slot = cond (is_transit_still routers) (redesignated db area gone lsa routers) None in slot) nobody_stays

  -- what becomes of a link of another router, where these stay
  abbrev link_where : RouterId → List RouterId → LinkChange
  link_where router routers = cond (list_any (λ listed. listed.0 == router.0) routers) (link_of_staying db area gone lsa routers) Stays

  -- a link of another router stays
  pub link_stays : (router : RouterId) → (router.0 == gone.0) ≡ false → link_to_left db area gone lsa router ≡ Stays
  link_stays router another = cond-false _ _ _ another ∙ ap (link_where router) nobody_stays
