-- Links, networks and routers that fail: the fates are safe, and loops collect the swaps that carry them out.
use Rattle.std.proofs.Common.{◌≡◌, ℕ, zero, suc, ◌+◌, ◌<◌, ◌≤◌, Bool, true, false, List, [], ◌∷◌, ◌++◌, length, drop, append_assoc, Option, Some, None}
use Rattle.std.proofs.Common.{Result, Ok, Err, refl, sym, ap, ◌∙◌, subst, arith, rules}
use Rattle.std.specs.Prelude.{All, AllPairs, IsSome, option_to_list, if◌then◌else◌, ◌==◌}
use Rattle.std.specs.List.{cons_option}
use Rattle.std.proofs.lemmas.Bool.{eqb-true}
use Rattle.std.proofs.lemmas.List.{drop_all, append-nil}
use Rattle.std.proofs.lemmas.List.Elements.{All-head, All-tail}
use Rattle.lsa_codec.specs.declared.address.Addr.{Addr}
use Rattle.lsa_codec.specs.declared.address.RouterId.{RouterId}
use Rattle.lsa_codec.specs.declared.fault.MakeFault.{MakeFault}
use Rattle.lsa_codec.specs.declared.key.Key.{Key}
use Rattle.lsa_codec.specs.declared.link.Link.{Link}
use Rattle.lsa_codec.specs.Accepted.{IsAccepted}
use Rattle.lsa_codec.specs.Fields.{kind_of, advertising_router_of}
use Rattle.lsa_codec.specs.Key.{key_of, router_key}
use Rattle.lsa_codec.specs.Making.{without_links, leads_to, leads_to_net}
use Rattle.lsa_codec.proofs.LsaLemmas.{links_rewritten}
use Rattle.lsdb.specs.declared.section.Section.{Section}
use Rattle.lsdb.specs.declared.slot.SlotId.{SlotId}
use Rattle.lsdb.specs.Lists.{AreaHead, SectionLsas, IsBefore, IsDatabase, heads_of, has_key, is_head_of, is_section, is_network}
use Rattle.lsdb.specs.Slots.{Slot, Slots, SectionSlots, item_at, slot_at, section_of, lists_of, slots_in, slots_or_none, head_or_none, IsNamed}
use Rattle.lsdb.proofs.KeyLemmas.{same_key_true}
use Rattle.lsdb.proofs.ListLemmas.{pairs_head, pairs_tail}
use Rattle.edit_history.specs.Rules.{Fate, Fates, stays, by_fates, within, section_name}
use Rattle.edit_history.specs.Effect.{cut, link_fate, net_fate, router_fate}
use Rattle.edit_history.specs.Exchange.{SwapData}
use Rattle.edit_history.specs.steps.Plans.{slot_of, swap_for, section_swaps, swaps_from, slot_swap}
use Rattle.edit_history.proofs.Keys.{found_passes, head_before, head_after, name_is}
use Rattle.edit_history.proofs.Searches.{here, slot_there}
use Rattle.edit_history.proofs.RulesCarriedOut.{CarriesOutRule}
use Rattle.edit_history.proofs.FatesBySlot.{IsSafeFate, IsSafe, fates_carried_out}

-- ---- the fates are safe

cut_safe : (test : Link → Bool) (x : List ℕ) → IsAccepted x → kind_of x ≡ 1 → IsSafeFate x (cut (without_links test x))
cut_safe test x accepted kind = by_answer (without_links test x) refl where
  by_answer : (r : Result (List ℕ) MakeFault) → without_links test x ≡ r → IsSafeFate x (cut r)
  by_answer (Ok new) is = links_rewritten test x new accepted kind is
  by_answer (Err fault) is = tt

kind_by_key : (router : RouterId) (x : List ℕ) → has_key (router_key router) x ≡ true → kind_of x ≡ 1
kind_by_key router x has = ap (λ (k : Key). k.kind) (same_key_true (key_of x) (router_key router) has)

safe_if : (x : List ℕ) (b : Bool) (f g : Fate) → (b ≡ true → IsSafeFate x f) → (b ≡ false → IsSafeFate x g) → IsSafeFate x (if b then f else g)
safe_if x true f g one two = one refl
safe_if x false f g one two = two refl

pub link_safe : (router neighbor : RouterId) (x : List ℕ) → IsAccepted x → IsSafeFate x (link_fate router neighbor x)
link_safe router neighbor x accepted =
    safe_if x (has_key (router_key router) x) _ _ (λ e. cut_safe (leads_to neighbor) x accepted (kind_by_key router x e))
    (λ _. safe_if x (has_key (router_key neighbor) x) _ _ (λ e. cut_safe (leads_to router) x accepted (kind_by_key neighbor x e)) (λ _. tt))

pub net_safe : (network : Addr) (x : List ℕ) → IsAccepted x → IsSafeFate x (net_fate network x)
net_safe network x accepted =
    safe_if x (is_network network x) _ _ (λ _. tt) (λ _. safe_if x (kind_of x == 1) _ _
    (λ e. cut_safe (leads_to_net network) x accepted (eqb-true _ _ e)) (λ _. tt))

pub router_safe : (router : RouterId) (x : List ℕ) → IsAccepted x → IsSafeFate x (router_fate router x)
router_safe router x accepted = safe_if x (advertising_router_of x == router.0) _ _ (λ _. tt) (λ _. tt)

-- ---- fates of one section

pub same_swaps : (f g : List ℕ → Fate) (section : ℕ) (name : Section) (i : ℕ) (ps : List Slot) → ((x : List ℕ) → f x ≡ g x)
    → section_swaps f section name i ps ≡ section_swaps g section name i ps
same_swaps f g section name i [] same = refl
same_swaps f g section name i (None ∷ ps) same = same_swaps f g section name (suc i) ps same
same_swaps f g section name i (Some x ∷ ps) same =
    ap (λ (t : Fate). cons_option (swap_for (slot_of section i) name x t) (section_swaps f section name (suc i) ps)) (same x)
    ∙ ap (cons_option (swap_for (slot_of section i) name x (g x))) (same_swaps f g section name (suc i) ps same)

pub no_swaps : (section : ℕ) (name : Section) (i : ℕ) (ps : List Slot) → section_swaps (λ x. stays) section name i ps ≡ []
no_swaps section name i [] = refl
no_swaps section name i (None ∷ ps) = no_swaps section name (suc i) ps
no_swaps section name i (Some x ∷ ps) = no_swaps section name (suc i) ps

abbrev fate_in : Bool → (List ℕ → Fate) → List ℕ → Fate
fate_in b fate x = if b then fate x else stays

-- a section of another name
not_in : (name : Section) (fate : List ℕ → Fate) (head : Option AreaHead) (section : ℕ) (ps : List Slot) → is_head_of name head ≡ false
    → section_swaps ((within name fate).fates head) section (section_name head) 0 ps ≡ []
not_in name fate head section ps apart =
    same_swaps (fate_in (is_head_of name head) fate) (λ x. stays) section (section_name head) 0 ps (λ x. ap (λ (b : Bool). fate_in b fate x) apart)
    ∙ no_swaps section (section_name head) 0 ps

-- the section of that name
in_it : (name : Section) (fate : List ℕ → Fate) (head : Option AreaHead) (section : ℕ) (ps : List Slot) → is_head_of name head ≡ true
    → section_swaps ((within name fate).fates head) section (section_name head) 0 ps ≡ section_swaps fate section name 0 ps
in_it name fate head section ps named =
    same_swaps (fate_in (is_head_of name head) fate) fate section (section_name head) 0 ps (λ x. ap (λ (b : Bool). fate_in b fate x) named)
    ∙ ap (λ (n : Section). section_swaps fate section n 0 ps) (sym (name_is name head named))

-- after the section with this name
none_after : (name : Section) (fate : List ℕ → Fate) (head : Option AreaHead) (d : Slots) (k : ℕ) → is_head_of name head ≡ true
    → All (IsBefore head) (heads_of (lists_of d)) → swaps_from (within name fate).fates k d ≡ []
none_after name fate head [] k named beyond = refl
none_after name fate head (s ∷ ss) k named beyond =
    let first : IsBefore head s.area = All-head (IsBefore head) s.area (heads_of (lists_of ss)) beyond in
    ap (λ (xs : List SwapData). xs ++ swaps_from (within name fate).fates (suc k) ss)
    (not_in name fate s.area k s.slots (head_after name head s.area named first))
    ∙ none_after name fate head ss (suc k) named (All-tail (IsBefore head) s.area (heads_of (lists_of ss)) beyond)

pub before_item : (a : Option AreaHead) (d : Slots) (i : ℕ) (t : SectionSlots) → All (IsBefore a) (heads_of (lists_of d)) → item_at d i ≡ Some t
    → IsBefore a t.area
before_item a [] i t all at = absurd cc
before_item a (s ∷ ss) zero t all at =
    let same : s ≡ t = cc in
    let first : IsBefore a s.area = All-head (IsBefore a) s.area (heads_of (lists_of ss)) all in
    subst (λ (u : SectionSlots). IsBefore a u.area) same first
before_item a (s ∷ ss) (suc i) t all at = before_item a ss i t (All-tail (IsBefore a) s.area (heads_of (lists_of ss)) all) at

one_from : (name : Section) (fate : List ℕ → Fate) (d : Slots) (k i n : ℕ) (t : SectionSlots) → n ≡ k + i
    → AllPairs IsBefore (heads_of (lists_of d)) → item_at d i ≡ Some t → is_head_of name t.area ≡ true
    → swaps_from (within name fate).fates k d ≡ section_swaps fate n name 0 (slots_in d i)
one_from name fate [] k i n t e order at named = absurd cc
one_from name fate (s ∷ ss) k zero n t e order at named =
    let same : s ≡ t = cc in
    let here' : is_head_of name s.area ≡ true = ap (λ (u : SectionSlots). is_head_of name u.area) same ∙ named in
    ap (λ (xs : List SwapData). section_swaps ((within name fate).fates s.area) k (section_name s.area) 0 s.slots ++ xs)
    (none_after name fate s.area ss (suc k) here' (pairs_head IsBefore s.area (heads_of (lists_of ss)) order))
    ∙ append-nil (section_swaps ((within name fate).fates s.area) k (section_name s.area) 0 s.slots)
    ∙ in_it name fate s.area k s.slots here'
    ∙ ap (λ (m : ℕ). section_swaps fate m name 0 s.slots) (let same_number : k ≡ n = omega arith in same_number)
one_from name fate (s ∷ ss) k (suc i) n t e order at named =
    let first : IsBefore s.area t.area = before_item s.area ss i t (pairs_head IsBefore s.area (heads_of (lists_of ss)) order) at in
    ap (λ (xs : List SwapData). xs ++ swaps_from (within name fate).fates (suc k) ss)
    (not_in name fate s.area k s.slots (head_before name s.area t.area named first))
    ∙ one_from name fate ss (suc k) i n t (omega arith) (pairs_tail IsBefore s.area (heads_of (lists_of ss)) order) at named

pub list_item : (d : Slots) (i : ℕ) (t : SectionSlots) → item_at d i ≡ Some t → item_at (lists_of d) i ≡ Some (section_of t)
list_item [] i t at = absurd cc
list_item (s ∷ ss) zero t at = let same : s ≡ t = cc in ap (λ (u : SectionSlots). let o : Option SectionLsas = Some (section_of u) in o) same
list_item (s ∷ ss) (suc i) t at = list_item ss i t at

-- the section of that name, by its number
pub record HasSection (d : Slots) (name : Section) (i : ℕ) : Type 0 where
  pub section : SectionSlots
  pub at : item_at d i ≡ Some section
  pub named : is_head_of name section.area ≡ true

pub has_section : (d : Slots) (name : Section) (i : ℕ) → IsNamed d name i → IsSome (item_at d i) → HasSection d name i
has_section d name i named some = by_item (item_at d i) refl some where
  by_item : (o : Option SectionSlots) → item_at d i ≡ o → IsSome o → HasSection d name i
  by_item None is some = absurd (search rules)
  by_item (Some t) is some =
      record { section = t; at = is; named = found_passes (is_section name) (lists_of d) (section_of t) (sym named.same ∙ list_item d i t is) }

within_safe : (name : Section) (fate : List ℕ → Fate) → ((x : List ℕ) → IsAccepted x → IsSafeFate x (fate x)) → IsSafe (within name fate).fates
within_safe name fate safe head x accepted = safe_if x (is_head_of name head) (fate x) stays (λ _. safe x accepted) (λ _. tt)

-- the swaps of one section do what its rule requires
pub section_carried_out : (d : Slots) (name : Section) (fate : List ℕ → Fate) (i : ℕ) → IsDatabase (lists_of d) → IsNamed d name i → IsSome (item_at d i)
    → ((x : List ℕ) → IsAccepted x → IsSafeFate x (fate x))
    → CarriesOutRule d (within name fate) (section_swaps fate i name 0 (slots_in d i))
section_carried_out d name fate i sound named some safe =
    let h = has_section d name i named some in
    subst (CarriesOutRule d (within name fate)) (one_from name fate d 0 i i h.section (omega arith) sound.heads.order h.at h.named)
    (fates_carried_out (within name fate).fates d (within_safe name fate safe) sound)

-- the swaps of all sections do what the rule of a router requires
pub router_carried_out : (d : Slots) (router : RouterId) → IsDatabase (lists_of d)
    → CarriesOutRule d (by_fates (λ head. router_fate router)) (swaps_from (λ head. router_fate router) 0 d)
router_carried_out d router sound = fates_carried_out (λ head. router_fate router) d (λ head x accepted. router_safe router x accepted) sound

-- ---- one more slot, one more section

pub swaps_at : (fate : List ℕ → Fate) (section : ℕ) (name : Section) (i : ℕ) (p : Slot) (rest : List Slot)
    → section_swaps fate section name i (p ∷ rest) ≡ option_to_list
    (slot_swap fate (slot_of section i) name (Some p)) ++ section_swaps fate section name (suc i) rest
swaps_at fate section name i None rest = refl
swaps_at fate section name i (Some x) rest = by_swap (swap_for (slot_of section i) name x (fate x)) where
  by_swap : (o : Option SwapData) → cons_option o (section_swaps fate section name (suc i) rest) ≡ option_to_list o ++ section_swaps fate section name
      (suc i) rest
  by_swap None = refl
  by_swap (Some s) = refl

pub slot_turn : (fate : List ℕ → Fate) (d : Slots) (section : ℕ) (name : Section) (i j : ℕ) (old new total : List SwapData)
    → i < length (slots_in d section) → j ≡ suc i
    → new ≡ old ++ option_to_list (slot_swap fate (slot_of section i) name (slot_at d (slot_of section i)))
    → old ++ section_swaps fate section name i (drop i (slots_in d section)) ≡ total
    → new ++ section_swaps fate section name j (drop j (slots_in d section)) ≡ total
slot_turn fate d section name i j old new total lt e pushed so_far =
    let h = here (slots_in d section) i j lt e in
    let rest : List Slot = drop j (slots_in d section) in
    let slot : SlotId = slot_of section i in
    ap (λ (ss : List SwapData). ss ++ section_swaps fate section name j rest) pushed
    ∙ append_assoc old (option_to_list (slot_swap fate slot name (slot_at d slot))) (section_swaps fate section name j rest)
    ∙ ap (λ (o : Option Slot). old ++ (option_to_list (slot_swap fate slot name o) ++ section_swaps fate section name j rest))
    (slot_there d section i h.item h.at)
    ∙ ap (λ (k : ℕ). old ++ (option_to_list (slot_swap fate slot name (Some h.item)) ++ section_swaps fate section name k rest)) e
    ∙ ap (λ (ss : List SwapData). old ++ ss) (sym (swaps_at fate section name i h.item rest))
    ∙ ap (λ (ps : List Slot). old ++ section_swaps fate section name i ps) (sym h.rest)
    ∙ so_far

pub slot_end : (fate : List ℕ → Fate) (d : Slots) (section : ℕ) (name : Section) (i : ℕ) (swaps total : List SwapData)
    → length (slots_in d section) ≤ i → swaps ++ section_swaps fate section name i (drop i (slots_in d section)) ≡ total → swaps ≡ total
slot_end fate d section name i swaps total end so_far =
    sym (ap (λ (ps : List Slot). swaps ++ section_swaps fate section name i ps) (drop_all i (slots_in d section) end) ∙ append-nil swaps) ∙ so_far

pub section_turn : (fates : Fates) (d : Slots) (i j : ℕ) (name : Section) (old new total : List SwapData) → i < length d → j ≡ suc i
    → name ≡ section_name (head_or_none (item_at d i))
    → new ≡ old ++ section_swaps (fates (head_or_none (item_at d i))) i name 0 (slots_in d i) → old ++ swaps_from fates i (drop i d) ≡ total
    → new ++ swaps_from fates j (drop j d) ≡ total
section_turn fates d i j name old new total lt e named is so_far =
    let h = here d i j lt e in
    ap (λ (ss : List SwapData). ss ++ swaps_from fates j (drop j d))
    (is ∙ ap (λ (n : Section). old ++ section_swaps (fates (head_or_none (item_at d i))) i n 0 (slots_in d i)) named
    ∙ ap (λ (o : Option SectionSlots).
    old ++ section_swaps (fates (head_or_none o)) i (section_name (head_or_none o)) 0 (slots_or_none o)) h.at)
    ∙ append_assoc old (section_swaps (fates h.item.area) i (section_name h.item.area) 0 h.item.slots) (swaps_from fates j (drop j d))
    ∙ ap (λ (k : ℕ). old ++ (section_swaps (fates h.item.area) i (section_name h.item.area) 0 h.item.slots ++ swaps_from fates k (drop j d))) e
    ∙ ap (λ (ls : Slots). old ++ swaps_from fates i ls) (sym h.rest)
    ∙ so_far

pub section_end : (fates : Fates) (d : Slots) (i : ℕ) (swaps total : List SwapData) → length d ≤ i
    → swaps ++ swaps_from fates i (drop i d) ≡ total → swaps ≡ total
section_end fates d i swaps total end so_far =
    sym (ap (λ (ls : Slots). swaps ++ swaps_from fates i ls) (drop_all i d end) ∙ append-nil swaps) ∙ so_far
