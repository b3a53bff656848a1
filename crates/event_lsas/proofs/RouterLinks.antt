-- The links of a router-LSA, each with its change, for the call that rebuilds it.
use Rattle.std.proofs.Common.{◌≡◌, ◌≤◌, ◌<◌, ℕ, zero, suc, ◌+◌, ◌*◌, List, length, map, arith, refl}
use Rattle.std.specs.List.{All}
use Rattle.std.proofs.lemmas.List.{length-map}
use Rattle.std.proofs.lemmas.List.Elements.{All-map, All-weaker}
use Rattle.lsa_codec.specs.declared.link.Link.{Link}
use Rattle.lsa_codec.specs.Accepted.{IsAccepted}
use Rattle.lsa_codec.specs.Fields.{kind_of}
use Rattle.lsa_codec.specs.Links.{link_count, link_length, links_from, links_of}
use Rattle.lsa_codec.specs.Making.{IsLinkOf}
use Rattle.lsa_codec.proofs.LsaLemmas.{has_texts}
use Rattle.lsa_remaking.specs.declared.link_change.LinkChange.{LinkChange}
use Rattle.lsa_remaking.specs.declared.link_change.ChangedLink.{ChangedLink}
use Rattle.lsa_remaking.specs.Relinking.{IsWithin, changed_links}

count_from : (n offset : ℕ) (lsa : List ℕ) → length (links_from n offset lsa) ≡ n
unfolding links_from
count_from zero offset lsa = refl
count_from (suc n) offset lsa = omega (arith, count_from n (offset + link_length offset lsa) lsa)

-- a link with its change
abbrev with_change : (Link → LinkChange) → Link → ChangedLink
with_change change link = record { link = link; change = change link }

pub long : (lsa : List ℕ) → IsAccepted lsa → kind_of lsa ≡ 1 → 24 ≤ length lsa
long lsa good kind = (has_texts lsa good kind).long

pub within : (change : Link → LinkChange) (lsa : List ℕ) → IsAccepted lsa → kind_of lsa ≡ 1 → All (IsWithin lsa) (changed_links change lsa)
within change lsa good kind =
    All-map (IsWithin lsa) (with_change change) (links_of lsa)
    (All-weaker (IsLinkOf lsa) (λ link. IsWithin lsa (with_change change link)) (λ link of. of.fits) (links_of lsa) (has_texts lsa good kind).links)

pub few : (change : Link → LinkChange) (lsa : List ℕ) → IsAccepted lsa → kind_of lsa ≡ 1 → length (changed_links change lsa) < 65536
few change lsa good kind =
    omega (arith, length-map (links_of lsa) (with_change change), count_from (link_count lsa) 24 lsa, (has_texts lsa good kind).few, good.short)
