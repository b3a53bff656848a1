-- The LSA in use of a vertex, by its key.
use Rattle.std.proofs.Common.{subst, ◌≡◌, ℕ, zero, suc, ◌<◌, Bool, true, false, List, [], ◌∷◌, length, Option, Some, None, refl, sym, ap, ◌∙◌, arith, ◌⊎◌, inl, inr, ⊎_elim}
use Rattle.std.specs.Prelude.{All, Contains, IfSome, not, ◌≤◌}
use Rattle.std.specs.List.{list_any}
use Rattle.std.proofs.lemmas.Bool.{and_from, and_parts, eq-eqb, eqb-true, false_from_ne_true, ltb-true}
use Rattle.std.proofs.lemmas.List.Elements.{All-contains, All-head, All-nil, All-tail}
use Rattle.lsa_codec.specs.declared.address.Addr.{Addr}
use Rattle.lsa_codec.specs.declared.address.RouterId.{RouterId}
use Rattle.lsa_codec.specs.declared.key.Key.{Key}
use Rattle.lsa_codec.specs.Accepted.{IsAccepted}
use Rattle.lsa_codec.specs.Fields.{kind_of, link_state_id_of, advertising_router_of}
use Rattle.lsa_codec.specs.Key.{key_of, router_key}
use Rattle.lsdb.specs.declared.slot.SlotId.{SlotId}
use Rattle.std.specs.Iterator.{YieldsFirst}
use Rattle.std.specs.Option.{is_some}
use Rattle.lsdb.specs.KeyRanges.{AreKeysBetween, HaveKeysBetween, KeyAt}
use Rattle.lsdb.specs.Lists.{IsDatabase, IsSection, Lists, is_network}
use Rattle.lsdb.specs.Slots.{Slot, Slots, SectionSlots, full, item_at, lists_of, lsas_in, lsas_or_none, slot_in, slots_in, slots_or_none, slot_at}
use Rattle.lsdb.proofs.KeyLemmas.{between_fields}
use Rattle.area_graph.specs.declared.vertex.Vertex.{Vertex}
use Rattle.area_graph.specs.declared.vertex.Vertex.TheVariants.{Network, Router}
use Rattle.area_graph.specs.Area.{is_outranked_by, is_network_lsa, is_vertex_lsa, outranks, used, vertex_lsas, vertex_of}
use Rattle.area_graph.specs.InUse.{IsLsaOf}
use Rattle.area_graph.specs.steps.KeyRange.{IsOfVertex}
use Rattle.area_graph.proofs.AreaLemmas.{network_number, not_router_of, router_lsa_of, vertex_of_network}
use Rattle.area_graph.proofs.MemberLemmas.{Contains-from_In, In, In-filter, In-from_Contains, filter-In, list_any-In}
use Rattle.area_graph.proofs.UsedLemmas.{kind_cases, origin_of}

-- ---- keys of a vertex's LSAs

router_between : (router : RouterId) → HaveKeysBetween (IsOfVertex (Router router)) (router_key router) (router_key router)
router_between router lsa widths h =
    let is = router_lsa_of lsa router h.own in
    let origin : link_state_id_of lsa ≡ advertising_router_of lsa = origin_of lsa h.accepted is.0 in
    let kinds : kind_of lsa ≡ 1 = is.0 in
    let ids : link_state_id_of lsa ≡ router.0 = is.1 in
    between_fields (router_key router) (router_key router) (key_of lsa)
    (omega arith) (omega arith) (omega arith) (omega arith) (omega arith) (omega arith)

pub router_keys : (router : RouterId) (low high : Key) → low ≡ router_key router → high ≡ router_key router
    → HaveKeysBetween (IsOfVertex (Router router)) low high
router_keys router low high is_low is_high = rw (is_low, is_high) (router_between router)

network_kind : (lsa : List ℕ) (network : Addr) → is_vertex_lsa lsa ≡ true → vertex_of lsa ≡ Network network → kind_of lsa ≡ 2
network_kind lsa network live e = ⊎_elim
    (λ router. absurd (let no : true ≡ false = sym router ∙ not_router_of lsa network e in cc))
    (λ other. eqb-true _ _ other.1) (kind_cases lsa live)

pub network_keys : (network : Addr) (low high : Key) → HaveKeysBetween (λ lsa. is_network network lsa ≡ true) low high
    → HaveKeysBetween (IsOfVertex (Network network)) low high
network_keys network low high keyed lsa widths h =
    keyed lsa widths (and_from _ _ (eq-eqb _ _ (network_kind lsa network h.live h.own)) (eq-eqb _ _ (network_number lsa network h.own)))

-- ---- places and their LSAs

item_in : (ps : List Slot) (lsa : List ℕ) → In (full ps) lsa → (i : ℕ) × (item_at ps i ≡ Some (Some lsa))
item_in [] lsa i = absurd i
item_in (None ∷ ps) lsa i = let r = item_in ps lsa i in (suc r.0, r.1)
item_in (Some x ∷ ps) lsa (inl p) = (0, ap (λ (y : List ℕ). Some (Some y)) p)
item_in (Some x ∷ ps) lsa (inr i) = let r = item_in ps lsa i in (suc r.0, r.1)

in_full : (ps : List Slot) (i : ℕ) (lsa : List ℕ) → item_at ps i ≡ Some (Some lsa) → In (full ps) lsa
in_full [] i lsa at = absurd cc
in_full (None ∷ ps) zero lsa at = absurd cc
in_full (None ∷ ps) (suc i) lsa at = in_full ps i lsa at
in_full (Some x ∷ ps) zero lsa at = inl cc
in_full (Some x ∷ ps) (suc i) lsa at = inr (in_full ps i lsa at)

lsas_full : (d : Slots) (section : ℕ) → lsas_in d section ≡ full (slots_in d section)
lsas_full [] section = refl
lsas_full (s ∷ ss) zero = refl
lsas_full (s ∷ ss) (suc section) = lsas_full ss section

there_place : (d : Slots) (slot : SlotId) (p : Slot) → slot_at d slot ≡ Some p → item_at (slots_in d slot.section) slot.index ≡ Some p
there_place d slot p e = by_item (item_at d slot.section) e where
  by_item : (o : Option SectionSlots) → slot_in o slot.index ≡ Some p → item_at (slots_or_none o) slot.index ≡ Some p
  by_item None e = absurd cc
  by_item (Some s) e = e

accepted_at : (db : Lists) (i : ℕ) → All IsSection db → All IsAccepted (lsas_or_none (item_at db i))
accepted_at [] i h = All-nil IsAccepted
accepted_at (s ∷ db) zero h = (All-head IsSection s db h).accepted
accepted_at (s ∷ db) (suc i) h = accepted_at db i (All-tail IsSection s db h)

-- ---- the one of them that is noted

only : {X : Type 0} (xs : List X) (x y : X) → length xs ≡ 1 → In xs x → In xs y → x ≡ y
only [] x y one i j = absurd i
only (z ∷ []) x y one (inl p) (inl q) = sym p ∙ q
only (z ∷ []) x y one (inl p) (inr j) = absurd j
only (z ∷ []) x y one (inr i) j = absurd i
only (z ∷ w ∷ ws) x y one i j = absurd (omega (arith, one))

-- one key, and none after it
pub one_key : (keys rest left : List KeyAt) (noted : KeyAt) (second : Option KeyAt) → keys ≡ noted ∷ rest → is_some second ≡ false
    → YieldsFirst (λ (ks : List KeyAt). ks) rest second left → length keys ≡ 1
one_key keys rest left noted None is none steps = ap length is ∙ ap (λ (ks : List KeyAt). suc (length ks)) steps.0
one_key keys rest left noted (Some e) is none steps = absurd cc

module _ (d : Slots) (section : ℕ) (vertex : Vertex) (low high : Key) (keys : List KeyAt) (sound : IsDatabase (lists_of d))
    (keyed : AreKeysBetween (slots_in d section) low high keys) (covered : HaveKeysBetween (IsOfVertex vertex) low high) (one : length keys ≡ 1) where
  -- an LSA of the vertex at a place of the section
  record Stands (i : ℕ) (lsa : List ℕ) : Type 0 where
    at : item_at (slots_in d section) i ≡ Some (Some lsa)
    live : is_vertex_lsa lsa ≡ true
    own : vertex_of lsa ≡ vertex

  in_section : (i : ℕ) (lsa : List ℕ) → item_at (slots_in d section) i ≡ Some (Some lsa) → In (lsas_in d section) lsa
  in_section i lsa at = subst (λ (xs : List (List ℕ)). In xs lsa) (sym (lsas_full d section)) (in_full (slots_in d section) i lsa at)

  noted : (i : ℕ) (lsa : List ℕ) → Stands i lsa → In keys (record { key = key_of lsa; index = i })
  noted i lsa s =
      let accepted = All-contains IsAccepted (lsas_in d section) lsa (accepted_at (lists_of d) section sound.sections)
      (Contains-from_In (lsas_in d section) lsa (in_section i lsa s.at)) in
      In-from_Contains keys _ (keyed.whole i lsa s.at (covered lsa (keyed.widths i lsa s.at) (record { accepted = accepted; live = s.live; own = s.own })))

  one_lsa : (i j : ℕ) (a b : List ℕ) → Stands i a → Stands j b → a ≡ b
  one_lsa i j a b s t =
      let same : i ≡ j = ap (λ (k : KeyAt). k.index) (only keys _ _ one (noted i a s) (noted j b t)) in
      let both : Some (Some a) ≡ Some (Some b) = sym s.at ∙ ap (item_at (slots_in d section)) same ∙ t.at in
      cc

  -- no other outranks it
  highest_one : (i : ℕ) (lsa : List ℕ) → Stands i lsa → list_any (is_outranked_by lsa) (vertex_lsas (lsas_in d section)) ≡ true → ⊥
  highest_one i lsa s any =
      let other = list_any-In (is_outranked_by lsa) (vertex_lsas (lsas_in d section)) any in
      let m = other.0 in
      let live = filter-In is_vertex_lsa (lsas_in d section) m other.1 in
      let here = item_in (slots_in d section) m (subst (λ (xs : List (List ℕ)). In xs m) (lsas_full d section) live.0) in
      let outer = and_parts (is_network_lsa lsa) (outranks (link_state_id_of lsa) (advertising_router_of lsa) m) other.2 in
      let kinds = and_parts (is_network_lsa m) _ outer.1 in
      let ids = and_parts _ _ kinds.1 in
      let network : Addr = record { 0 = link_state_id_of lsa } in
      let of_lsa : vertex_of lsa ≡ Network network = vertex_of_network lsa network (eqb-true _ _ outer.0, refl) in
      let of_m : vertex_of m ≡ Network network = vertex_of_network m network (eqb-true _ _ kinds.0, eqb-true _ _ ids.0) in
      let t : Stands here.0 m = record { at = here.1; live = live.1; own = of_m ∙ sym of_lsa ∙ s.own } in
      let same : lsa ≡ m = one_lsa i here.0 lsa m s t in
      let less : advertising_router_of lsa < advertising_router_of m = ltb-true _ _ ids.1 in
      let advs : advertising_router_of lsa ≡ advertising_router_of m = ap advertising_router_of same in
      absurd (omega arith)

  pub in_use : (slot : SlotId) → slot.section ≡ section → (lsa : List ℕ) → slot_at d slot ≡ Some (Some lsa) → is_vertex_lsa lsa ≡ true
      → vertex_of lsa ≡ vertex → IsLsaOf (lsas_in d section) vertex lsa
  unfolding used
  in_use slot same lsa at live own =
      let lsas = lsas_in d section in
      let here : item_at (slots_in d section) slot.index ≡ Some (Some lsa) =
      ap (λ n. item_at (slots_in d n) slot.index) (sym same) ∙ there_place d slot (Some lsa) at in
      let s : Stands slot.index lsa = record { at = here; live = live; own = own } in
      let top : list_any (is_outranked_by lsa) (vertex_lsas lsas) ≡ false = false_from_ne_true _ (highest_one slot.index lsa s) in
      record {
        in_use =
            Contains-from_In (used lsas) lsa
            (In-filter (λ x. not (list_any (is_outranked_by x) (vertex_lsas lsas))) (vertex_lsas lsas) lsa
            (In-filter is_vertex_lsa lsas lsa (in_section slot.index lsa here) live) (ap not top));
        own = own;
      }

-- what follows for an optional value from three facts about it
pub of_each : {X : Type 0} (o : Option X) (P Q R S : X → Type 0) → IfSome o P → IfSome o Q → IfSome o R → ((x : X) → P x → Q x → R x → S x) → IfSome o S
of_each None P Q R S p q r all = tt
of_each (Some x) P Q R S p q r all = all x p q r
