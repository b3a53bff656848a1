-- The areas stand first, and one section after them.
use Rattle.std.proofs.Common.{◌≡◌, ℕ, zero, suc, ◌<◌, true, List, [], ◌∷◌, length, get_or, Option, Some, None, refl, sym, ap, ◌∙◌, subst, arith}
use Rattle.std.specs.Prelude.{AllPairs, IsSome, slice_get, option_map}
use Rattle.std.specs.List.{list_any, filter_map, cons_option}
use Rattle.lsdb.specs.declared.database.SectionOf.{SectionOf}
use Rattle.lsdb.specs.Lists.{AreaHead, Lists, IsBefore, is_as_wide, AreHeads, heads_of, areas_of}
use Rattle.lsdb.specs.Slots.{lists_of}
use Rattle.lsdb.specs.steps.View.{head_of, slots_of}
use Rattle.lsdb.proofs.Middle.{pairs_tail}

abbrev areas_in : List (Option AreaHead) → List AreaHead
areas_in heads = filter_map (λ head. head) heads

areas_seen : (db : Lists) → areas_of db ≡ areas_in (heads_of db)
areas_seen [] = refl
areas_seen (s ∷ db) = ap (cons_option s.area) (areas_seen db)

-- nothing stands after the LSAs of AS scope
last_head : (head : Option AreaHead) (heads : List (Option AreaHead)) → AllPairs IsBefore (None ∷ head ∷ heads) → ⊥
last_head head heads pairs = pairs zero (suc zero) None (omega arith) (omega arith)

heads_count : (heads : List (Option AreaHead)) → AllPairs IsBefore heads → list_any is_as_wide heads ≡ true
    → length heads ≡ suc (length (areas_in heads))
heads_count [] pairs wide = absurd cc
heads_count (None ∷ []) pairs wide = refl
heads_count (None ∷ head ∷ heads) pairs wide = absurd (last_head head heads pairs)
heads_count (Some area ∷ heads) pairs wide = ap suc (heads_count heads (pairs_tail IsBefore (Some area) heads pairs) wide)

heads_at : (heads : List (Option AreaHead)) (i : ℕ) (head : Option AreaHead) → AllPairs IsBefore heads
    → list_any is_as_wide heads ≡ true → slice_get heads i ≡ Some head → i < length (areas_in heads)
    → (slice_get (areas_in heads) i ≡ head) × IsSome head
heads_at [] i head pairs wide at within = absurd cc
heads_at (None ∷ []) i head pairs wide at within = absurd (omega arith)
heads_at (None ∷ other ∷ heads) i head pairs wide at within = absurd (last_head other heads pairs)
heads_at (Some area ∷ heads) zero head pairs wide at within = let same : Some area ≡ head = cc in (same, subst IsSome same refl)
heads_at (Some area ∷ heads) (suc i) head pairs wide at within = heads_at heads i head (pairs_tail IsBefore (Some area) heads pairs) wide at (omega arith)

pub areas_count : (db : Lists) → AreHeads (heads_of db) → length (heads_of db) ≡ suc (length (areas_of db))
areas_count db h = heads_count (heads_of db) h.order h.as_wide ∙ ap (λ (areas : List AreaHead). suc (length areas)) (sym (areas_seen db))

area_at : (db : Lists) (i : ℕ) (head : Option AreaHead) → AreHeads (heads_of db)
    → slice_get (heads_of db) i ≡ Some head → i < length (areas_of db)
    → (slice_get (areas_of db) i ≡ head) × IsSome head
area_at db i head h at within =
    let found = heads_at (heads_of db) i head h.order h.as_wide at (omega (arith, ap length (areas_seen db), within)) in
    (ap (λ (areas : List AreaHead). slice_get areas i) (areas_seen db) ∙ found.0, found.1)

-- ---- the sections in memory

pub heads_seen : {A : Type 0} → (ss : List (SectionOf A)) → length (heads_of (lists_of (slots_of ss))) ≡ length ss
heads_seen {A} [] = refl
heads_seen {A} (s ∷ ss) = ap suc (heads_seen ss)

head_seen : {A : Type 0} → (ss : List (SectionOf A)) (i : ℕ) (s : SectionOf A) → i < length ss
    → s ≡ get_or ss i s → slice_get (heads_of (lists_of (slots_of ss))) i ≡ Some (option_map head_of s.area)
head_seen {A} [] i s within h = absurd (omega arith)
head_seen {A} (t ∷ ss) zero s within h = ap (λ (x : SectionOf A). let head : Option (Option AreaHead) = Some (option_map head_of x.area) in head) (sym h)
head_seen {A} (t ∷ ss) (suc i) s within h = head_seen ss i s (omega arith) h

pub area_seen : {A : Type 0} → (ss : List (SectionOf A)) (i : ℕ) (s : SectionOf A)
    → AreHeads (heads_of (lists_of (slots_of ss))) → i < length (areas_of (lists_of (slots_of ss)))
    → s ≡ get_or ss i s
    → (slice_get (areas_of (lists_of (slots_of ss))) i ≡ option_map head_of s.area) × IsSome (option_map head_of s.area)
area_seen {A} ss i s h within here =
    let db = lists_of (slots_of ss) in
    area_at db i (option_map head_of s.area) h (head_seen ss i s (omega (arith, areas_count db h, heads_seen ss, within)) here) within
