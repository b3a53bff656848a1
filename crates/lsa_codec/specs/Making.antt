-- Router-LSAs made from others: the bytes, or the first fault.
use Rattle.std.specs.Prelude.{◌≡◌, ℕ, ◌+◌, ◌-◌, ◌≤◌, List, ◌∷◌, ◌++◌, length, take, drop, Option, Some, None, is_some, Result, Ok, Err, IsOk, ◌==◌, nat_lt, if◌then◌else◌, Bool, true, not, ◌&&◌}
use Rattle.std.specs.List.{flat_map, filter, remove, list_any}
use Rattle.byteorder.specs.Endian.{big_bytes}
use Rattle.lsa_codec.specs.declared.fault.MakeFault.{MakeFault}
use Rattle.lsa_codec.specs.declared.fault.MakeFault.TheVariants.{NoLink, ZeroCost, TooLong, OutOfMemory}
use Rattle.lsa_codec.specs.declared.address.Addr.{Addr}
use Rattle.lsa_codec.specs.declared.address.RouterId.{RouterId}
use Rattle.lsa_codec.specs.declared.link.Link.{Link}
use Rattle.lsa_codec.specs.declared.link.LinkKind.TheVariants.{Stub}
use Rattle.lsa_codec.specs.declared.relink.Target.{Target}
use Rattle.lsa_codec.specs.declared.relink.Target.TheVariants as target
use Rattle.lsa_codec.specs.Fields.{put_number, byte_at, age_of}
use Rattle.lsa_codec.specs.Checksum.{with_checksum}
use Rattle.lsa_codec.specs.Links.{links_of, link_at, link_length, link_count, link_numbered, first_link, has_cost, is_point_to_point, is_transit}
use Rattle.lsa_codec.specs.Accepted.{IsAccepted, longest_lsa, is_link_mask_good, is_link_cost_good}
use Rattle.lsa_codec.specs.Key.{key_of}
use Rattle.lsa_codec.specs.Prefix.{Net, mask_of_len}

-- the bytes with the metric of a link replaced and the checksum rebuilt
abbrev pub with_metric_of : Link → ℕ → List ℕ → List ℕ
with_metric_of link metric lsa = with_checksum (put_number 2 (link.offset + 10) metric lsa)

-- a router-LSA with the metric of this link replaced, if there is one
abbrev pub with_cost_on : Option Link → ℕ → List ℕ → Result (List ℕ) MakeFault
with_cost_on None metric lsa = Err NoLink
with_cost_on (Some link) metric lsa =
    if has_cost link.kind && (metric == 0) then Err ZeroCost else Ok (with_metric_of link metric lsa)

-- a router-LSA with the metric of link k replaced
abbrev pub with_cost : ℕ → ℕ → List ℕ → Result (List ℕ) MakeFault
with_cost k metric lsa = with_cost_on (link_numbered k lsa) metric lsa

-- the bytes of a router-LSA with the number of links, length and checksum set again
abbrev pub recounted : ℕ → List ℕ → List ℕ
recounted count bytes = with_checksum (put_number 2 18 (length bytes) (put_number 2 22 count bytes))

-- the bytes of a link, with its TOS metrics
abbrev pub link_text : List ℕ → Link → List ℕ
link_text lsa link = take (link_length link.offset lsa) (drop link.offset lsa)

-- a router-LSA with only these of its links, in this order
abbrev pub with_links : List Link → List ℕ → List ℕ
with_links kept lsa = recounted (length kept) (take first_link lsa ++ flat_map (link_text lsa) kept)

-- a router-LSA without link k
abbrev pub without_link : ℕ → List ℕ → Result (List ℕ) MakeFault
without_link k lsa = if is_some (link_numbered k lsa) then Ok (with_links (remove (links_of lsa) (k - 1)) lsa) else Err NoLink

-- a point-to-point link to this router
abbrev pub leads_to : RouterId → Link → Bool
leads_to router link = is_point_to_point link.kind && (link.id.0 == router.0)

-- a link to the transit network whose Designated Router has this address
abbrev pub leads_to_net : Addr → Link → Bool
leads_to_net addr link = is_transit link.kind && (link.id.0 == addr.0)

-- a link is among those that are removed
abbrev pub is_end_of : Target → Link → Bool
is_end_of (target.Router router) link = leads_to router link
is_end_of (target.Net addr) link = leads_to_net addr link

-- a router-LSA without the links that pass a test
abbrev pub without_links : (Link → Bool) → List ℕ → Result (List ℕ) MakeFault
without_links test lsa =
    if list_any test (links_of lsa) then Ok (with_links (filter (λ link. not (test link)) (links_of lsa)) lsa) else Err NoLink

-- the bytes of a stub link: Link ID, Link Data, type 3, no TOS metrics, metric (RFC 2328, A.4.2)
abbrev pub stub_text : Net → ℕ → List ℕ
stub_text net metric = big_bytes 4 net.addr.0 ++ big_bytes 4 (mask_of_len net.len) ++ 3 ∷ 0 ∷ big_bytes 2 metric

-- the stub link of a prefix, where it begins at an offset
abbrev pub stub_link : Net → ℕ → ℕ → Link
stub_link net cost at = record {
  id = net.addr;
  link_data = record { 0 = mask_of_len net.len };
  kind = Stub;
  metric = cost;
  offset = at;
}

-- a router-LSA with a stub link after its last link
abbrev pub with_stub : Net → ℕ → List ℕ → Result (List ℕ) MakeFault
with_stub net metric lsa =
    if nat_lt longest_lsa (length lsa + 12) then Err TooLong else Ok (recounted (link_count lsa + 1) (lsa ++ stub_text net metric))

-- the fault is the one that the result names; `OutOfMemory` comes only where there is no other
abbrev pub IsMakeFaultOf : MakeFault → Result (List ℕ) MakeFault → Type 0
IsMakeFaultOf OutOfMemory answer = IsOk answer
IsMakeFaultOf NoLink answer = answer ≡ Err NoLink
IsMakeFaultOf ZeroCost answer = answer ≡ Err ZeroCost
IsMakeFaultOf TooLong answer = answer ≡ Err TooLong

-- an LSA made from another of the same key: accepted, and no longer
pub record IsRewriteOf (old new : List ℕ) : Type 0 where
  pub accepted : IsAccepted new
  pub key : key_of new ≡ key_of old
  pub size : length new ≤ length old

-- an LSA made from another of the same key by a stub link: accepted, and 12 bytes longer
pub record IsExtensionOf (old new : List ℕ) : Type 0 where
  pub accepted : IsAccepted new
  pub key : key_of new ≡ key_of old
  pub size : length new ≡ length old + 12

-- a router-LSA keeps its LS age and its flags, the bits V, E and B
pub record KeepsAgeAndFlags (old new : List ℕ) : Type 0 where
  pub age : age_of new ≡ age_of old
  pub flags : byte_at 20 new ≡ byte_at 20 old

-- a link of an accepted router-LSA
pub record IsLinkOf (lsa : List ℕ) (link : Link) : Type 0 where
  pub is : link ≡ link_at link.offset lsa
  pub low : first_link ≤ link.offset
  pub fits : link.offset + link_length link.offset lsa ≤ length lsa
  pub mask : is_link_mask_good link ≡ true
  pub cost : is_link_cost_good link ≡ true
