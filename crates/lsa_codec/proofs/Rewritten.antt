-- What is made of an LSA is accepted and has its key.
use Rattle.std.proofs.Common.{◌≡◌, ℕ, ◌+◌, ◌-◌, ◌≤◌, ◌<◌, ◌^◌, Bool, true, false, cond, eqb, not, ◌&&◌, List, ◌++◌, length, take, get_or, Option, Some}
use Rattle.std.proofs.Common.{None, Ok, Err, refl, ap, subst, ◌∙◌, arith, inl}
use Rattle.std.specs.Prelude.{is_some, nat_lt}
use Rattle.std.specs.List.{remove, filter, list_any, flat_map}
use Rattle.std.proofs.lemmas.Bool.{ltb-false}
use Rattle.std.proofs.lemmas.List.{length-append, length-take, get_or_append_left, get_or-take}
use Rattle.lsa_codec.specs.declared.address.Addr.{Addr}
use Rattle.lsa_codec.specs.declared.address.RouterId.{RouterId}
use Rattle.lsa_codec.specs.declared.key.Key.{Key}
use Rattle.lsa_codec.specs.declared.link.Link.{Link}
use Rattle.lsa_codec.specs.declared.fault.MakeFault.{MakeFault}
use Rattle.lsa_codec.specs.declared.fault.MakeFault.TheVariants.{NoLink, ZeroCost, TooLong}
use Rattle.lsa_codec.specs.Fields.{number_at, kind_of}
use Rattle.lsa_codec.specs.Links.{links_of, link_count, link_numbered, has_cost}
use Rattle.lsa_codec.specs.Prefix.{Net, IsNet}
use Rattle.lsa_codec.specs.Accepted.{IsAccepted}
use Rattle.lsa_codec.specs.Key.{key_of}
use Rattle.lsa_codec.specs.Views.{has_metric}
use Rattle.lsa_codec.specs.Making.{IsRewriteOf, IsExtensionOf, recounted, link_text, with_links, with_cost, with_cost_on, with_metric_of, without_link}
use Rattle.lsa_codec.specs.Making.{without_links, with_stub, stub_text}
use Rattle.lsa_codec.specs.Originating.{with_metric, new_summary, new_external, IsNewLsa}
use Rattle.lsa_codec.proofs.Bytes.{number_at-same}
use Rattle.lsa_codec.proofs.Made.{pair_is}
use Rattle.lsa_codec.proofs.Cost.{rewrite_with_metric, place_of_number}
use Rattle.lsa_codec.proofs.LinkTexts.{recounted_is, body_of}
use Rattle.lsa_codec.proofs.Relinked.{has_texts, length-body, kept_few, accepted_links, accepted_stub, AreKept, kept_removed, kept_filtered, ok_of, made_is}
use Rattle.lsa_codec.proofs.Originated.{remetered_is, accepted_metric, metric_long, accepted_summary, accepted_external}

-- the bytes before the checksum have the key
pub same_key : (a b : List ℕ) → ((i : ℕ) → i < 16 → get_or a i 0 ≡ get_or b i 0) → key_of a ≡ key_of b
same_key a b same =
    let type : get_or a 3 0 ≡ get_or b 3 0 = same 3 (omega arith) in
    let id : number_at 4 4 a ≡ number_at 4 4 b = number_at-same 4 4 a b (λ j lo hi. same j (omega arith)) in
    let adv : number_at 4 8 a ≡ number_at 4 8 b = number_at-same 4 8 a b (λ j lo hi. same j (omega arith)) in
    rw (type, id, adv) refl

-- an LSA that keeps some of its links
pub rewrite_links : (lsa : List ℕ) (kept : List Link) → IsAccepted lsa → kind_of lsa ≡ 1 → AreKept lsa kept
    → IsRewriteOf lsa (with_links kept lsa)
rewrite_links lsa kept old kind are =
    let long = (has_texts lsa old kind).long in
    let texts : List ℕ = flat_map (link_text lsa) kept in
    let size = length-body (link_text lsa) kept lsa long in
    let few = kept_few lsa kept old are.links are.shorter in
    let new = recounted_is (length kept) (body_of (link_text lsa) kept lsa) (omega arith) (omega (arith, old.short, are.shorter)) (omega arith) in
    record {
      accepted = accepted_links lsa kept old kind are.links are.shorter;
      key =
          same_key _ lsa (λ i lt. new.header i lt ∙ get_or_append_left (take 24 lsa) texts 0 i (omega (arith, length-take 24 lsa))
          ∙ get_or-take 24 lsa i 0 (omega arith));
      size = omega (arith, new.size, are.shorter);
    }

pub link_rewritten : (k : ℕ) (lsa made : List ℕ) → IsAccepted lsa → kind_of lsa ≡ 1 → without_link k lsa ≡ Ok made → IsRewriteOf lsa made
link_rewritten k lsa made old kind e =
    let is = made_is (is_some (link_numbered k lsa)) (with_links (remove (links_of lsa) (k - 1)) lsa) made NoLink e in
    subst (IsRewriteOf lsa) is (rewrite_links lsa (remove (links_of lsa) (k - 1)) old kind (kept_removed (k - 1) lsa old kind))

pub links_rewritten : (test : Link → Bool) (lsa made : List ℕ) → IsAccepted lsa → kind_of lsa ≡ 1
    → without_links test lsa ≡ Ok made → IsRewriteOf lsa made
links_rewritten test lsa made old kind e =
    let kept : List Link = filter (λ link. not (test link)) (links_of lsa) in
    let is = made_is (list_any test (links_of lsa)) (with_links kept lsa) made NoLink e in
    subst (IsRewriteOf lsa) is (rewrite_links lsa kept old kind (kept_filtered (λ link. not (test link)) lsa old kind))

-- a maker that did not fail, the fault first
pub guard : (b : Bool) (fault : MakeFault) (x made : List ℕ) → cond b (Err fault) (ok_of x) ≡ ok_of made → (b ≡ false) × (x ≡ made)
guard true fault x made e = absurd cc
guard false fault x made e =
    let is : x ≡ made = cc in
    (refl, is)

pub stub_extended : (net : Net) (metric : ℕ) (lsa made : List ℕ) → IsAccepted lsa → kind_of lsa ≡ 1
    → net.len ≤ 32 → with_stub net metric lsa ≡ Ok made → IsExtensionOf lsa made
stub_extended net metric lsa made old kind le e =
    let stub : List ℕ = stub_text net metric in
    let parts = guard (nat_lt 65535 (length lsa + 12)) TooLong (recounted (link_count lsa + 1) (lsa ++ stub)) made e in
    let short : length lsa + 12 ≤ 65535 = ltb-false _ _ parts.0 in
    let has = has_texts lsa old kind in
    let size = length-append lsa stub in
    let new = recounted_is (link_count lsa + 1) (lsa ++ stub) (omega (arith, has.long)) (omega arith) (omega (arith, has.few)) in
    let extension : IsExtensionOf lsa (recounted (link_count lsa + 1) (lsa ++ stub)) = record {
      accepted = accepted_stub net metric lsa old kind le short;
      key = same_key _ lsa (λ i lt. new.header i lt ∙ get_or_append_left lsa stub 0 i (omega (arith, has.long)));
      size = omega (arith, new.size);
    } in
    subst (IsExtensionOf lsa) parts.1 extension

cost_rewritten_on : (o : Option Link) (k metric : ℕ) (lsa made : List ℕ) → o ≡ link_numbered k lsa
    → IsAccepted lsa → kind_of lsa ≡ 1 → metric < 65536
    → with_cost_on o metric lsa ≡ ok_of made → IsRewriteOf lsa made
cost_rewritten_on None k metric lsa made numbered old kind small e = absurd cc
cost_rewritten_on (Some link) k metric lsa made numbered old kind small e =
    let parts = guard (has_cost link.kind && eqb metric 0) ZeroCost (with_metric_of link metric lsa) made e in
    subst (IsRewriteOf lsa) parts.1 (rewrite_with_metric (k - 1) metric link lsa old kind (place_of_number k lsa link numbered) small parts.0)

pub cost_rewritten : (k metric : ℕ) (lsa made : List ℕ) → IsAccepted lsa → kind_of lsa ≡ 1 → metric < 65536
    → with_cost k metric lsa ≡ Ok made → IsRewriteOf lsa made
cost_rewritten k metric lsa made old kind small e = cost_rewritten_on (link_numbered k lsa) k metric lsa made refl old kind small e

pub metric_rewritten : (metric : ℕ) (lsa : List ℕ) → IsAccepted lsa → has_metric (kind_of lsa) ≡ true
    → IsRewriteOf lsa (with_metric metric lsa)
metric_rewritten metric lsa old has =
    let long = metric_long lsa old has in
    let new = remetered_is metric lsa long in
    record {
      accepted = accepted_metric metric lsa old has long;
      key = same_key _ lsa (λ i lt. new.same i (inl lt) (inl (omega arith)));
      size = omega (arith, new.size);
    }

-- a key of numbers
abbrev key_with : ℕ → ℕ × ℕ → Key
key_with kind p = record { kind = kind; id = record { 0 = p.0 }; adv = record { 0 = p.1 } }

pub summary_new : (options : ℕ) (adv : RouterId) (net : Net) (metric : ℕ) → IsNet net → net.addr.0 < 2 ^ 32
    → adv.0 < 2 ^ 32 → IsNewLsa 3 net adv 28 (new_summary options adv net metric)
summary_new options adv net metric is_net addr_small adv_small =
    let a : List ℕ = new_summary options adv net metric in
    let id : number_at 4 4 a ≡ net.addr.0 = omega arith in
    let origin : number_at 4 8 a ≡ adv.0 = omega arith in
    record {
      accepted = accepted_summary options adv net metric is_net.short;
      key = ap (key_with 3) (pair_is _ _ _ _ id origin);
      size = refl;
    }

pub external_new : (adv : RouterId) (net : Net) (type2 : Bool) (metric : ℕ) (forward : Addr) (tag : ℕ)
    → IsNet net → net.addr.0 < 2 ^ 32 → adv.0 < 2 ^ 32
    → IsNewLsa 5 net adv 36 (new_external adv net type2 metric forward tag)
external_new adv net type2 metric forward tag is_net addr_small adv_small =
    let a : List ℕ = new_external adv net type2 metric forward tag in
    let id : number_at 4 4 a ≡ net.addr.0 = omega arith in
    let origin : number_at 4 8 a ≡ adv.0 = omega arith in
    record {
      accepted = accepted_external adv net type2 metric forward tag is_net.short;
      key = ap (key_with 5) (pair_is _ _ _ _ id origin);
      size = refl;
    }
