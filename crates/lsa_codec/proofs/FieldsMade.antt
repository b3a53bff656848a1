-- The fields of LSAs that are made: links, LS age and flags of router-LSAs, and the fields of the other types.
use Rattle.std.proofs.Common.{◌≡◌, ℕ, suc, ◌+◌, ◌-◌, ◌≤◌, ◌<◌, ◌^◌, Bool, true, false, eqb, not, ◌&&◌, List, [], ◌∷◌, ◌++◌, take, length, get_or, set}
use Rattle.std.proofs.Common.{Option, Some, Ok, refl, sym, ap, ◌∙◌, subst, arith, inl, inr}
use Rattle.std.specs.Prelude.{is_some, nat_lt, nat_le, None, if◌then◌else◌}
use Rattle.std.specs.List.{remove, filter, list_any, flat_map}
use Rattle.std.proofs.lemmas.Bool.{ltb-false, eqb-true}
use Rattle.std.proofs.lemmas.List.{length-append, length-take, get_or_append_left, get_or-append_right, get_or-take}
use Rattle.std.proofs.lemmas.Nat.{pow_pos}
use Rattle.lsa_codec.specs.declared.address.Addr.{Addr}
use Rattle.lsa_codec.specs.declared.address.RouterId.{RouterId}
use Rattle.lsa_codec.specs.declared.link.Link.{Link}
use Rattle.lsa_codec.specs.declared.link.LinkKind.TheVariants.{Stub}
use Rattle.byteorder.specs.Endian.{big_bytes}
use Rattle.lsa_codec.specs.declared.fault.MakeFault.TheVariants.{NoLink, ZeroCost, TooLong}
use Rattle.lsa_codec.specs.Fields.{number_at, put_number, kind_of, mask_of}
use Rattle.lsa_codec.specs.Links.{after_links, links_from, link_at, links_of, link_count, link_numbered, has_cost, remetered}
use Rattle.lsa_codec.specs.Prefix.{Net, IsNet, masked, mask_of_len, len_of_mask}
use Rattle.lsa_codec.specs.Accepted.{IsAccepted}
use Rattle.lsa_codec.specs.Views.{has_metric, net_of_lsa, metric_of}
use Rattle.lsa_codec.specs.Making.{recounted, link_text, with_links, with_cost, with_cost_on, with_metric_of, without_link, without_links, with_stub}
use Rattle.lsa_codec.specs.Making.{stub_text, stub_link, KeepsAgeAndFlags}
use Rattle.lsa_codec.specs.Originating.{with_metric, new_summary, new_external, HasOtherMetric, HasNewFields, HasExternalFields}
use Rattle.lsa_codec.proofs.Bytes.{number_at-same, number_at-put_3, length-put_at, get_or-put_after}
use Rattle.lsa_codec.proofs.Decoded.{has_links}
use Rattle.lsa_codec.proofs.LinkWalk.{links_agree, links_from_push}
use Rattle.lsa_codec.proofs.Made.{checksum_made}
use Rattle.lsa_codec.proofs.MaskLengths.{len_of_mask_of_len}
use Rattle.lsa_codec.proofs.Cost.{links_with_metric, kept_with_metric, place_of_number}
use Rattle.lsa_codec.proofs.LinkTexts.{StandsAt, Recounted, link_at-moved, recounted_is, body_of}
use Rattle.lsa_codec.proofs.Relinked.{has_texts, length-body, kept_few, AreKept, kept_removed, kept_filtered, ok_of, made_is}
use Rattle.lsa_codec.proofs.Originated.{remetered_is, metric_long}
use Rattle.lsa_codec.proofs.Rewritten.{guard}

-- ---- another cost of a link

cost_on : (k metric : ℕ) (link : Link) (lsa made : List ℕ) → Some link ≡ link_numbered k lsa
    → with_cost k metric lsa ≡ ok_of made → with_metric_of link metric lsa ≡ made
cost_on k metric link lsa made numbered e =
    let on : with_cost_on (Some link) metric lsa ≡ ok_of made = ap (λ (o : Option Link). with_cost_on o metric lsa) numbered ∙ e in
    (guard (has_cost link.kind && eqb metric 0) ZeroCost (with_metric_of link metric lsa) made on).1

pub cost_links : (k metric : ℕ) (link : Link) (lsa made : List ℕ) → IsAccepted lsa → kind_of lsa ≡ 1
    → metric < 65536 → link_numbered k lsa ≡ Some link
    → with_cost k metric lsa ≡ Ok made → links_of made ≡ set (links_of lsa) (k - 1) (remetered link metric)
cost_links k metric link lsa made old kind small numbered e =
    ap links_of (sym (cost_on k metric link lsa made (sym numbered) e))
    ∙ links_with_metric (k - 1) metric link lsa old kind (place_of_number k lsa link (sym numbered)) small

cost_kept_on : (o : Option Link) (k metric : ℕ) (lsa made : List ℕ) → o ≡ link_numbered k lsa
    → IsAccepted lsa → kind_of lsa ≡ 1 → metric < 65536
    → with_cost k metric lsa ≡ ok_of made → KeepsAgeAndFlags lsa made
cost_kept_on None k metric lsa made numbered old kind small e =
    let none : with_cost_on None metric lsa ≡ ok_of made = ap (λ (o : Option Link). with_cost_on o metric lsa) numbered ∙ e in
    absurd cc
cost_kept_on (Some link) k metric lsa made numbered old kind small e =
    subst (KeepsAgeAndFlags lsa) (cost_on k metric link lsa made numbered e)
    (kept_with_metric (k - 1) metric link lsa old kind (place_of_number k lsa link numbered) small)

pub cost_kept : (k metric : ℕ) (lsa made : List ℕ) → IsAccepted lsa → kind_of lsa ≡ 1 → metric < 65536
    → with_cost k metric lsa ≡ Ok made → KeepsAgeAndFlags lsa made
cost_kept k metric lsa made old kind small e = cost_kept_on (link_numbered k lsa) k metric lsa made refl old kind small e

-- ---- fewer links

kept_links : (lsa : List ℕ) (kept : List Link) → IsAccepted lsa → kind_of lsa ≡ 1 → AreKept lsa kept
    → KeepsAgeAndFlags lsa (with_links kept lsa)
kept_links lsa kept old kind are =
    let long = (has_texts lsa old kind).long in
    let texts : List ℕ = flat_map (link_text lsa) kept in
    let size = length-body (link_text lsa) kept lsa long in
    let few = kept_few lsa kept old are.links are.shorter in
    let new = recounted_is (length kept) (body_of (link_text lsa) kept lsa) (omega arith) (omega (arith, old.short, are.shorter)) (omega arith) in
    let front = λ (i : ℕ) (lt : i < 24). get_or_append_left (take 24 lsa) texts 0 i (omega (arith, length-take 24 lsa)) ∙ get_or-take 24 lsa i 0 lt in
    record {
      age = number_at-same 2 0 (with_links kept lsa) lsa (λ j lo hi. new.header j (omega arith) ∙ front j (omega arith));
      flags = new.flags ∙ front 20 (omega arith);
    }

pub link_kept : (k : ℕ) (lsa made : List ℕ) → IsAccepted lsa → kind_of lsa ≡ 1 → without_link k lsa ≡ Ok made → KeepsAgeAndFlags lsa made
link_kept k lsa made old kind e =
    let is = made_is (is_some (link_numbered k lsa)) (with_links (remove (links_of lsa) (k - 1)) lsa) made NoLink e in
    subst (KeepsAgeAndFlags lsa) is (kept_links lsa (remove (links_of lsa) (k - 1)) old kind (kept_removed (k - 1) lsa old kind))

pub links_kept : (test : Link → Bool) (lsa made : List ℕ) → IsAccepted lsa → kind_of lsa ≡ 1
    → without_links test lsa ≡ Ok made → KeepsAgeAndFlags lsa made
links_kept test lsa made old kind e =
    let kept : List Link = filter (λ link. not (test link)) (links_of lsa) in
    let is = made_is (list_any test (links_of lsa)) (with_links kept lsa) made NoLink e in
    subst (KeepsAgeAndFlags lsa) is (kept_links lsa kept old kind (kept_filtered (λ link. not (test link)) lsa old kind))

-- ---- one more stub link

-- the LSA with a stub link, and its properties
record Extended (net : Net) (metric : ℕ) (lsa made : List ℕ) : Type 0 where
  pub is : recounted (link_count lsa + 1) (lsa ++ stub_text net metric) ≡ made
  pub new : Recounted (link_count lsa + 1) (lsa ++ stub_text net metric) (recounted (link_count lsa + 1) (lsa ++ stub_text net metric))

extended : (net : Net) (metric : ℕ) (lsa made : List ℕ) → IsAccepted lsa → kind_of lsa ≡ 1
    → with_stub net metric lsa ≡ ok_of made → Extended net metric lsa made
extended net metric lsa made old kind e =
    let stub : List ℕ = stub_text net metric in
    let parts = guard (nat_lt 65535 (length lsa + 12)) TooLong (recounted (link_count lsa + 1) (lsa ++ stub)) made e in
    let short : length lsa + 12 ≤ 65535 = ltb-false _ _ parts.0 in
    let has = has_texts lsa old kind in
    let size = length-append lsa stub in
    record { is = parts.1; new = recounted_is (link_count lsa + 1) (lsa ++ stub) (omega (arith, has.long)) (omega arith) (omega (arith, has.few)) }

pub stub_kept : (net : Net) (metric : ℕ) (lsa made : List ℕ) → IsAccepted lsa → kind_of lsa ≡ 1
    → with_stub net metric lsa ≡ Ok made → KeepsAgeAndFlags lsa made
stub_kept net metric lsa made old kind e =
    let stub : List ℕ = stub_text net metric in
    let one = extended net metric lsa made old kind e in
    let long = (has_texts lsa old kind).long in
    let front = λ (i : ℕ) (lt : i < 24). get_or_append_left lsa stub 0 i (omega (arith, long)) in
    let kept : KeepsAgeAndFlags lsa (recounted (link_count lsa + 1) (lsa ++ stub)) = record {
      age = number_at-same 2 0 _ lsa (λ j lo hi. one.new.header j (omega arith) ∙ front j (omega arith));
      flags = one.new.flags ∙ front 20 (omega arith);
    } in
    subst (KeepsAgeAndFlags lsa) one.is kept

-- a stub link by its numbers, and a link moved to an offset
abbrev stub_of : ℕ → ℕ → ℕ → Link
stub_of id mask cost = record { id = record { 0 = id }; link_data = record { 0 = mask }; kind = Stub; metric = cost; offset = 0 }

abbrev placed : ℕ → Link → Link
placed at link = record link { offset = at }

stub_read : (net : Net) (metric : ℕ) → net.addr.0 < 2 ^ 32 → metric < 65536 → link_at 0 (stub_text net metric) ≡ stub_link net metric 0
stub_read net metric addr_small small =
    let stub : List ℕ = stub_text net metric in
    let id : number_at 4 0 stub ≡ net.addr.0 = omega arith in
    let mask : number_at 4 4 stub ≡ mask_of_len net.len = omega (arith, pow_pos (32 - net.len)) in
    let cost : number_at 2 10 stub ≡ metric = omega arith in
    ap (λ (n : ℕ). stub_of n (number_at 4 4 stub) (number_at 2 10 stub)) id
    ∙ ap (λ (n : ℕ). stub_of net.addr.0 n (number_at 2 10 stub)) mask
    ∙ ap (λ (n : ℕ). stub_of net.addr.0 (mask_of_len net.len) n) cost

pub stub_links : (net : Net) (metric : ℕ) (lsa made : List ℕ) → IsAccepted lsa → kind_of lsa ≡ 1 → net.addr.0 < 2 ^ 32 → metric < 65536
    → with_stub net metric lsa ≡ Ok made → links_of made ≡ links_of lsa ++ stub_link net metric (length lsa) ∷ []
stub_links net metric lsa made old kind addr_small small e =
    let stub : List ℕ = stub_text net metric in
    let n : ℕ = link_count lsa in
    let a : List ℕ = recounted (n + 1) (lsa ++ stub) in
    let one = extended net metric lsa made old kind e in
    let whole = has_links lsa old.body kind in
    let size = length-append lsa stub in
    let own = links_agree n 24 a lsa (λ i lo hi. one.new.body i lo ∙ get_or_append_left lsa stub 0 i (omega (arith, whole.whole))) in
    let at : StandsAt (length lsa) stub a = record {
      here = λ j lt.
          let back : length lsa + j - length lsa ≡ j = omega arith in
          one.new.body (length lsa + j) (omega (arith, whole.header))
          ∙ get_or-append_right lsa stub (length lsa) (length lsa + j) 0 refl (omega arith) ∙ ap (λ k. get_or stub k 0) back;
    } in
    let last : link_at (length lsa) a ≡ stub_link net metric (length lsa) =
    ap (placed (length lsa)) (link_at-moved (length lsa) stub a at (omega arith) ∙ stub_read net metric addr_small small) in
    let count : link_count a ≡ suc n = one.new.links ∙ omega arith in
    ap links_of (sym one.is)
    ∙ ap (λ k. links_from k 24 a) count
    ∙ links_from_push n 24 a
    ∙ ap (λ (ls : List Link). ls ++ link_at (after_links n 24 a) a ∷ []) own.0
    ∙ ap (λ (o : ℕ). links_of lsa ++ link_at o a ∷ []) (own.1 ∙ whole.whole)
    ∙ ap (λ (l : Link). links_of lsa ++ l ∷ []) last

-- ---- another metric of a summary-LSA or AS-external-LSA

metric_written : (metric : ℕ) (lsa : List ℕ) → 28 ≤ length lsa → metric < 2 ^ 24 → metric_of (with_metric metric lsa) ≡ metric
metric_written metric lsa long small =
    let inner : List ℕ = put_number 3 25 metric lsa in
    let size : length inner ≡ length lsa = length-put_at 25 (big_bytes 3 metric) lsa (omega arith) in
    number_at-same 3 25 (with_metric metric lsa) inner (λ j lo hi. get_or-put_after 16 (big_bytes 2 (checksum_made inner)) inner j (omega arith) (omega arith))
    ∙ number_at-put_3 25 metric lsa (omega arith) small

pub metric_fields : (metric : ℕ) (lsa : List ℕ) → IsAccepted lsa → has_metric (kind_of lsa) ≡ true
    → metric < 2 ^ 24 → HasOtherMetric metric lsa (with_metric metric lsa)
metric_fields metric lsa old has small =
    let a : List ℕ = with_metric metric lsa in
    let long = metric_long lsa old has in
    let new = remetered_is metric lsa long in
    let mask : mask_of a ≡ mask_of lsa = number_at-same 4 20 a lsa (λ j lo hi. new.same j (inr (omega arith)) (inl (omega arith))) in
    let id : number_at 4 4 a ≡ number_at 4 4 lsa = number_at-same 4 4 a lsa (λ j lo hi. new.same j (inl (omega arith)) (inl (omega arith))) in
    let top : get_or a 24 0 ≡ get_or lsa 24 0 = new.same 24 (inr (omega arith)) (inl (omega arith)) in
    record {
      metric = metric_written metric lsa long small;
      age = number_at-same 2 0 a lsa (λ j lo hi. new.same j (inl (omega arith)) (inl (omega arith)));
      mask = mask;
      net =
          ap (λ (n : ℕ). masked (record { 0 = n }) (len_of_mask (mask_of a))) id
          ∙ ap (λ (n : ℕ). masked (record { 0 = number_at 4 4 lsa }) (len_of_mask n)) mask;
      type2 = ap (λ (n : ℕ). nat_le 128 n) top;
      forward = number_at-same 4 28 a lsa (λ j lo hi. new.same j (inr (omega arith)) (inr (omega arith)));
      tag = number_at-same 4 32 a lsa (λ j lo hi. new.same j (inr (omega arith)) (inr (omega arith)));
    }

-- ---- new LSAs

abbrev net_with : ℕ → ℕ → Net
net_with addr len = record { addr = record { 0 = addr }; len = len }

-- the Link State ID and the mask of a prefix give the prefix
net_read : (net : Net) (lsa : List ℕ) → IsNet net → number_at 4 4 lsa ≡ net.addr.0
    → mask_of lsa ≡ mask_of_len net.len → net_of_lsa lsa ≡ net
net_read net lsa is id mask =
    let len : len_of_mask (mask_of lsa) ≡ net.len = ap len_of_mask mask ∙ len_of_mask_of_len net.len is.short in
    ap (λ (n : ℕ). masked (record { 0 = n }) (len_of_mask (mask_of lsa))) id
    ∙ ap (λ (n : ℕ). masked net.addr n) len
    ∙ ap (λ (n : ℕ). net_with n net.len) (eqb-true _ _ is.masked)

pub summary_fields : (options : ℕ) (adv : RouterId) (net : Net) (metric : ℕ) → IsNet net
    → net.addr.0 < 2 ^ 32 → metric < 2 ^ 24 → HasNewFields net metric (new_summary options adv net metric)
summary_fields options adv net metric is addr_small small =
    let a : List ℕ = new_summary options adv net metric in
    let id : number_at 4 4 a ≡ net.addr.0 = omega arith in
    let mask : mask_of a ≡ mask_of_len net.len = omega (arith, pow_pos (32 - net.len)) in
    record { age = refl; live = refl; mask = mask; net = net_read net a is id mask; metric = omega arith }

pub external_fields : (adv : RouterId) (net : Net) (type2 : Bool) (metric : ℕ) (forward : Addr) (tag : ℕ)
    → IsNet net → net.addr.0 < 2 ^ 32 → metric < 2 ^ 24
    → HasNewFields net metric (new_external adv net type2 metric forward tag)
external_fields adv net type2 metric forward tag is addr_small small =
    let a : List ℕ = new_external adv net type2 metric forward tag in
    let id : number_at 4 4 a ≡ net.addr.0 = omega arith in
    let mask : mask_of a ≡ mask_of_len net.len = omega (arith, pow_pos (32 - net.len)) in
    record { age = refl; live = refl; mask = mask; net = net_read net a is id mask; metric = omega arith }

type_read : (type2 : Bool) → nat_le 128 (if type2 then 128 else 0) ≡ type2
type_read true = refl
type_read false = refl

pub external_further : (adv : RouterId) (net : Net) (type2 : Bool) (metric : ℕ) (forward : Addr) (tag : ℕ)
    → forward.0 < 2 ^ 32 → tag < 2 ^ 32
    → HasExternalFields type2 forward tag (new_external adv net type2 metric forward tag)
external_further adv net type2 metric forward tag forward_small tag_small =
    record { type2 = type_read type2; forward = omega arith; tag = omega arith }
