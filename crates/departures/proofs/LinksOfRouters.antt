-- The links of a router-LSA are within it, and few.
use Rattle.std.proofs.Common.{◌≡◌, ◌≤◌, ◌<◌, ℕ, zero, suc, ◌+◌, List, length, arith, refl}
use Rattle.std.specs.List.{All}
use Rattle.std.proofs.lemmas.List.{length-map}
use Rattle.std.proofs.lemmas.List.Elements.{All-map, All-weaker}
use Rattle.lsa_codec.specs.declared.address.AreaId.{AreaId}
use Rattle.lsa_codec.specs.declared.address.RouterId.{RouterId}
use Rattle.lsa_codec.specs.declared.link.Link.{Link}
use Rattle.lsa_codec.specs.Accepted.{IsAccepted}
use Rattle.lsa_codec.specs.Fields.{kind_of}
use Rattle.lsa_codec.specs.Links.{link_count, link_length, links_from, links_of}
use Rattle.lsa_codec.specs.Making.{IsLinkOf}
use Rattle.lsa_codec.proofs.LsaLemmas.{has_texts}
use Rattle.lsdb.specs.Lists.{Lists}
use Rattle.lsa_remaking.specs.declared.link_change.ChangedLink.{ChangedLink}
use Rattle.lsa_remaking.specs.Relinking.{IsWithin}
use Rattle.network_departures.specs.declared.departure.Departure.{Departure}
use Rattle.network_departures.specs.LinksAfter.{link_after, links_after}

counted : (count at : ℕ) (lsa : List ℕ) → length (links_from count at lsa) ≡ count
unfolding links_from
counted zero at lsa = refl
counted (suc count) at lsa = omega (arith, counted count (at + link_length at lsa) lsa)

module _ (db : Lists) (event : Departure) (area : AreaId) (networks : List (List ℕ)) (router : RouterId) (lsa : List ℕ) (good : IsAccepted lsa)
    (kind : kind_of lsa ≡ 1) where
  abbrev changed : Link → ChangedLink
  changed link = record { link = link; change = link_after db event area networks router link }

  pub all_within : All (IsWithin lsa) (links_after db event area networks router lsa)
  all_within =
      let each = All-weaker (IsLinkOf lsa) (λ link. IsWithin lsa (changed link)) (λ link of. of.fits) (links_of lsa) (has_texts lsa good kind).links in
      All-map (IsWithin lsa) changed (links_of lsa) each

  pub all_few : length (links_after db event area networks router lsa) < 65536
  all_few =
      omega (arith, counted (link_count lsa) 24 lsa, length-map (links_of lsa) changed, (has_texts lsa good kind).few, good.short)

pub header : (lsa : List ℕ) → IsAccepted lsa → kind_of lsa ≡ 1 → 24 ≤ length lsa
header lsa good kind = (has_texts lsa good kind).long
