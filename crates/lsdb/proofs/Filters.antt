-- Filters of transit networks: each may have the networks that it was made of.
use Rattle.std.proofs.Common.{◌≡◌, ◌^◌, ◌%◌, ◌/◌, ◌==◌, ◌&&◌, ◌||◌, ℕ, zero, suc, ◌<◌, Bool, true, false, not, List, [], ◌∷◌, ◌++◌, length, set, get_or, Option, Some, None, refl, sym, ap, subst, ◌∙◌, arith}
use Rattle.std.specs.Prelude.{bit_and, bit_or, option_map, if◌then◌else◌}
use Rattle.std.specs.List.{list_any}
use Rattle.std.proofs.lemmas.Bool.{and_parts, eqb-true, eqb-false, ne_eqb}
use Rattle.std.proofs.lemmas.List.{length-map, map-append, map-set}
use Rattle.std.proofs.lemmas.Nat.{and_or_self, and_or_apart, pow_apart, pow_pos}
use Rattle.std.proofs.lemmas.Option.{slice_get-map}
use Rattle.lsa_codec.specs.declared.address.Addr.{Addr}
use Rattle.lsa_codec.specs.declared.link.Link.{Link}
use Rattle.lsa_codec.specs.Fields.{kind_of, link_state_id_of}
use Rattle.lsa_codec.specs.Links.{is_transit, links_of}
use Rattle.lsa_codec.specs.LsTypes.{router_lsa, network_lsa}
use Rattle.lsa_codec.specs.Making.{leads_to_net}
use Rattle.lsdb.specs.declared.transit_filters.TransitFilter.{TransitFilter}
use Rattle.lsdb.specs.Slots.{Slot, item_at}
use Rattle.lsdb.specs.TransitFilters.{block_bit, may_have, is_of_network, AreTransitFilters}
use Rattle.lsdb.specs.steps.Filtering.{no_networks, with_network, with_link, with_links, filter_of_lsa, filter_of_slot, filters_of}

-- ---- bits

abbrev IsIn : ℕ → ℕ → Type 0
IsIn bits k = bit_and bits (2 ^ k) ≡ 2 ^ k

put_in : (bits k : ℕ) → IsIn (bit_or bits (2 ^ k)) k
put_in bits k = and_or_self (2 ^ k) bits

kept_in : (bits k j : ℕ) → IsIn bits k → IsIn (bit_or bits (2 ^ j)) k
kept_in bits k j has = by_test (j == k) refl where
  by_test : (b : Bool) → (j == k) ≡ b → IsIn (bit_or bits (2 ^ j)) k
  by_test true e = subst (λ (i : ℕ). IsIn (bit_or bits (2 ^ i)) k) (sym (eqb-true j k e)) (put_in bits k)
  by_test false e = and_or_apart (2 ^ k) bits (2 ^ j) (pow_apart j k (eqb-false j k e)) ∙ has

not_zero : (bits k : ℕ) → IsIn bits k → not (bit_and bits (2 ^ k) == 0) ≡ true
not_zero bits k has = ap not (ne_eqb _ _ (λ none. absurd (omega (arith, pow_pos k, has, none))))

-- ---- filters

-- the network was put in
record Has (filter : TransitFilter) (network : Addr) : Type 0 where
  one : IsIn filter.networks (network.0 % 31)
  block : IsIn filter.blocks (network.0 / 65536 % 31)

was_put : (filter : TransitFilter) (network other : Addr) → other.0 ≡ network.0 → Has (with_network filter other) network
was_put filter network other same = record {
  one = subst (λ (n : ℕ). IsIn (bit_or filter.networks (2 ^ (n % 31))) (network.0 % 31)) (sym same) (put_in filter.networks (network.0 % 31));
  block =
      subst (λ (n : ℕ). IsIn (bit_or filter.blocks (2 ^ (n / 65536 % 31))) (network.0 / 65536 % 31)) (sym same)
      (put_in filter.blocks (network.0 / 65536 % 31));
}

stays_put : (filter : TransitFilter) (network other : Addr) → Has filter network → Has (with_network filter other) network
stays_put filter network other has = record {
  one = kept_in filter.networks (network.0 % 31) (other.0 % 31) has.one;
  block = kept_in filter.blocks (network.0 / 65536 % 31) (other.0 / 65536 % 31) has.block;
}

may : (filter : TransitFilter) (network : Addr) → Has filter network → may_have network filter ≡ true
may filter network has =
    ap (λ (b : Bool). b && not (bit_and filter.blocks (block_bit network) == 0)) (not_zero filter.networks (network.0 % 31) has.one)
    ∙ not_zero filter.blocks (network.0 / 65536 % 31) has.block

-- ---- links

kept_by_link : (filter : TransitFilter) (network : Addr) (link : Link) → Has filter network → Has (with_link filter link) network
kept_by_link filter network link has = by_kind (is_transit link.kind) where
  by_kind : (b : Bool) → Has (if b then with_network filter link.id else filter) network
  by_kind true = stays_put filter network link.id has
  by_kind false = has

put_by_link : (filter : TransitFilter) (network : Addr) (link : Link) → leads_to_net network link ≡ true → Has (with_link filter link) network
put_by_link filter network link leads =
    let parts = and_parts (is_transit link.kind) (link.id.0 == network.0) leads in
    subst (λ (b : Bool). Has (if b then with_network filter link.id else filter) network) (sym parts.0)
    (was_put filter network link.id (eqb-true _ _ parts.1))

kept_by_links : (links : List Link) (filter : TransitFilter) (network : Addr) → Has filter network → Has (with_links filter links) network
kept_by_links [] filter network has = has
kept_by_links (link ∷ links) filter network has = kept_by_links links (with_link filter link) network (kept_by_link filter network link has)

put_by_links : (links : List Link) (filter : TransitFilter) (network : Addr) → list_any (leads_to_net network) links ≡ true
    → Has (with_links filter links) network
put_by_links [] filter network any = absurd cc
put_by_links (link ∷ links) filter network any = by_test (leads_to_net network link) refl any (put_by_links links (with_link filter link) network) where
  by_test : (b : Bool) → leads_to_net network link ≡ b → (b || list_any (leads_to_net network) links) ≡ true
      → (list_any (leads_to_net network) links ≡ true → Has (with_links (with_link filter link) links) network)
      → Has (with_links (with_link filter link) links) network
  by_test true leads more rest = kept_by_links links (with_link filter link) network (put_by_link filter network link leads)
  by_test false other more rest = rest more

pub one_link_more : (links : List Link) (filter : TransitFilter) (link : Link)
    → with_links filter (links ++ link ∷ []) ≡ with_link (with_links filter links) link
one_link_more [] filter link = refl
one_link_more (other ∷ links) filter link = one_link_more links (with_link filter other) link

-- ---- LSAs and slots

lsa_may : (lsa : List ℕ) (network : Addr) → is_of_network network lsa ≡ true → may_have network (filter_of_lsa lsa) ≡ true
lsa_may lsa network own = by_router (kind_of lsa == router_lsa) own where
  by_network : (b : Bool) → (b && (link_state_id_of lsa == network.0)) ≡ true
      → may_have network (if b then with_network no_networks (record { 0 = link_state_id_of lsa }) else no_networks) ≡ true
  by_network true is =
      may (with_network no_networks (record { 0 = link_state_id_of lsa })) network
      (was_put no_networks network (record { 0 = link_state_id_of lsa }) (eqb-true _ _ is))
  by_network false is = absurd cc

  by_router : (b : Bool)
      → (if b then list_any (leads_to_net network) (links_of lsa) else (kind_of lsa == network_lsa) && (link_state_id_of lsa == network.0)) ≡ true
      → may_have network (if b then with_links no_networks (links_of lsa) else
      if kind_of lsa == network_lsa then with_network no_networks (record { 0 = link_state_id_of lsa }) else no_networks) ≡ true
  by_router true is = may (with_links no_networks (links_of lsa)) network (put_by_links (links_of lsa) no_networks network is)
  by_router false is = by_network (kind_of lsa == network_lsa) is

some_same : (x y : TransitFilter) → (let o : Option TransitFilter = Some x in o) ≡ Some y → x ≡ y
some_same x y is = cc

pub are_filters : (slots : List Slot) (filters : List TransitFilter) → filters ≡ filters_of slots → AreTransitFilters slots filters
are_filters slots filters is = record {
  count = ap length is ∙ length-map slots filter_of_slot;
  whole = λ index lsa filter network at filtered own.
      let same : filter_of_lsa lsa ≡ filter =
      some_same _ _ (sym (ap (λ (fs : List TransitFilter). item_at fs index) is ∙ slice_get-map filter_of_slot slots index
      ∙ ap (λ (o : Option Slot). option_map filter_of_slot o) at) ∙ filtered) in
      ap (λ (f : TransitFilter). may_have network f) (sym same) ∙ lsa_may lsa network own;
}

-- what stands at a slot was exchanged, and its filter rebuilt
pub filters_put : (old : List Slot) (before : List TransitFilter) (index : ℕ) (v : Slot) (slots : List Slot) (after : List TransitFilter)
    → before ≡ filters_of old → slots ≡ set old index v → index < length old
    → after ≡ set before index (filter_of_slot (get_or slots index None)) → after ≡ filters_of (set old index v)
filters_put old before index v slots after sound put within is =
    is
    ∙ ap (λ (fs : List TransitFilter). set fs index (filter_of_slot (get_or slots index None))) sound
    ∙ ap (λ (p : Slot). set (filters_of old) index (filter_of_slot p)) (ap (λ (ps : List Slot). get_or ps index None) put ∙ set_here old index v within)
    ∙ sym (map-set filter_of_slot old index v)
  where
    set_here : (ps : List Slot) (i : ℕ) (p : Slot) → i < length ps → get_or (set ps i p) i None ≡ p
    set_here [] i p lt = absurd (omega arith)
    set_here (q ∷ ps) zero p lt = refl
    set_here (q ∷ ps) (suc i) p lt = set_here ps i p (omega arith)

-- an empty slot was opened
pub filters_opened : (old slots : List Slot) (before after : List TransitFilter) → before ≡ filters_of old → slots ≡ old ++ None ∷ []
    → after ≡ before ++ no_networks ∷ [] → after ≡ filters_of slots
filters_opened old slots before after sound opened is =
    is ∙ ap (λ (fs : List TransitFilter). fs ++ no_networks ∷ []) sound ∙ sym (map-append filter_of_slot old (None ∷ []))
    ∙ ap filters_of (sym opened)
