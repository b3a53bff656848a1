-- Router-LSAs with some links removed, with another cost, or leading elsewhere (RFC 2328, 12.4.1, A.4.2).
use Rattle.std.specs.Prelude.{◌≤◌, ℕ, ◌+◌, Bool, true, false, List, [], ◌∷◌, length, filter, map, take, ◌++◌, Result}
use Rattle.std.specs.List.{flat_map}
use Rattle.byteorder.specs.Endian.{big_bytes}
use Rattle.lsa_codec.specs.declared.address.Addr.{Addr}
use Rattle.lsa_codec.specs.declared.link.Link.{Link}
use Rattle.lsa_codec.specs.Fields.{put_number}
use Rattle.lsa_codec.specs.Links.{first_link, link_length, links_of}
use Rattle.lsa_codec.specs.Making.{link_text}
use Rattle.lsa_remaking.specs.declared.link_change.LinkChange.{LinkChange}
use Rattle.lsa_remaking.specs.declared.link_change.LinkChange.TheVariants.{Stays, Removed, Costs, LeadsTo, StubOf}
use Rattle.lsa_remaking.specs.declared.link_change.ChangedLink.{ChangedLink}
use Rattle.lsa_remaking.specs.declared.fault.RemakeFault.{RemakeFault}
use Rattle.lsa_remaking.specs.Making.{made, remeasured}

-- a link is there afterwards
abbrev pub is_left : LinkChange → Bool
is_left Stays = true
is_left Removed = false
is_left (Costs metric) = true
is_left (LeadsTo id) = true
is_left (StubOf number mask) = true

-- a stub link: Link ID, Link Data, type 3, no TOS metrics, metric
abbrev pub stub_text : Addr → ℕ → ℕ → List ℕ
stub_text number mask metric = big_bytes 4 number.0 ++ big_bytes 4 mask ++ 3 ∷ 0 ∷ big_bytes 2 metric

-- the bytes in place of a link: its own, with its TOS metrics, perhaps with another metric or Link ID; or those of a stub link
-- with its metric
abbrev pub text_by : LinkChange → List ℕ → Link → List ℕ
text_by Stays lsa link = link_text lsa link
text_by Removed lsa link = []
text_by (Costs metric) lsa link = put_number 2 10 metric (link_text lsa link)
text_by (LeadsTo id) lsa link = put_number 4 0 id.0 (link_text lsa link)
text_by (StubOf number mask) lsa link = stub_text number mask link.metric

abbrev pub changed_text : List ℕ → ChangedLink → List ℕ
changed_text lsa changed = text_by changed.change lsa changed.link

-- how many of the links are there afterwards
abbrev pub count_left : List ChangedLink → ℕ
count_left links = length (filter (λ changed. is_left changed.change) links)

-- the bytes of a router-LSA before its links, and then those in place of the links
abbrev pub changed_body : List ChangedLink → List ℕ → List ℕ
changed_body links lsa = take first_link lsa ++ flat_map (changed_text lsa) links

-- the same with the number of the links that are left
abbrev pub counted_body : List ChangedLink → List ℕ → List ℕ
counted_body links lsa = put_number 2 22 (count_left links) (changed_body links lsa)

-- a router-LSA with these of its links, each as it is changed: the number of links, length and checksum are set again
abbrev pub relinked : List ChangedLink → List ℕ → List ℕ
relinked links lsa = remeasured (counted_body links lsa)

-- each link of a router-LSA, with what becomes of it
abbrev pub changed_links : (Link → LinkChange) → List ℕ → List ChangedLink
changed_links change lsa = map (λ link. record { link = link; change = change link }) (links_of lsa)

-- the same, or why there is none
abbrev pub relinking : List ChangedLink → List ℕ → Result (List ℕ) RemakeFault
relinking links lsa = made (counted_body links lsa)

-- the bytes of a link are within the LSA
abbrev pub IsWithin : List ℕ → ChangedLink → Type 0
IsWithin lsa changed = changed.link.offset + link_length changed.link.offset lsa ≤ length lsa
