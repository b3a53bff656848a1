-- The text that is written section by section.
use Rattle.std.proofs.Common.{◌≡◌, ℕ, zero, suc, ◌^◌, ◌<◌, ◌≤◌, List, [], ◌∷◌, ◌++◌, length, get_or, take, refl, sym, ap, ◌∙◌, append_assoc, arith}
use Rattle.std.proofs.Common.{Option, Some, None}
use Rattle.std.specs.Prelude.{All}
use Rattle.std.specs.Int.{w8, to_be_bytes}
use Rattle.std.specs.List.{flat_map}
use Rattle.std.proofs.lemmas.List.{append-nil, take_all, length-map}
use Rattle.std.proofs.lemmas.List.Concat.{flat_map-append, flat_map-cons}
use Rattle.std.proofs.lemmas.List.Elements.{All-head, All-tail}
use Rattle.lsa_codec.specs.Key.{key_of}
use Rattle.lsdb.specs.declared.database.SectionOf.{SectionOf}
use Rattle.lsdb.specs.Lists.{AreaHead, Lists, IsSection, IsDatabase, limit_of}
use Rattle.lsdb.specs.Slots.{item_at, lists_of}
use Rattle.lsdb.specs.steps.View.{slots_of}
use Rattle.lsdb.specs.Text.{section_text, area_count}
use Rattle.lsdb.specs.BaseText.{sections_text}
use Rattle.lsdb.proofs.Full.{shown}
use Rattle.lsdb.proofs.Searching.{section_turn, section_count}

all_at_item : {X : Type 0} (P : X → Type 0) (xs : List X) (i : ℕ) (x : X) → item_at xs i ≡ Some x → All P xs → P x
all_at_item P [] i x e h = absurd cc
all_at_item P (y ∷ ys) zero x e h = let same : y ≡ x = cc in rw (← same) (All-head P y ys h)
all_at_item P (y ∷ ys) (suc i) x e h = all_at_item P ys i x e (All-tail P y ys h)

take_next : {X : Type 0} (xs : List X) (i : ℕ) (x : X) → item_at xs i ≡ Some x → take (suc i) xs ≡ take i xs ++ x ∷ []
take_next [] i x e = absurd cc
take_next (y ∷ ys) zero x e = let same : y ≡ x = cc in ap (λ z. z ∷ []) same
take_next (y ∷ ys) (suc i) x e = ap (λ zs. y ∷ zs) (take_next ys i x e)

pub limit_fits : (area : Option AreaHead) → limit_of area < 2 ^ 16
limit_fits None = omega arith
limit_fits (Some area) = omega arith

-- the number of LSAs of a section has 16 bits
pub section_few : {A : Type 0} → (ss : List (SectionOf A)) (i : ℕ) (s : SectionOf A)
    → IsDatabase (lists_of (slots_of ss)) → i < length ss → s ≡ get_or ss i s
    → length ((shown s).lsas) < 2 ^ 16
section_few {A} ss i s db lt is =
    let t = section_turn ss i (suc i) s lt refl is in
    let one = all_at_item IsSection (lists_of (slots_of ss)) i (shown s) t.here db.sections in
    omega (arith, one.keys.few, length-map (shown s).lsas key_of, limit_fits (shown s).area)

-- one section more
pub section_next : {A : Type 0}
    → (ss : List (SectionOf A)) (i j : ℕ) (s : SectionOf A) (start old new : List ℕ) → i < length ss
    → j ≡ suc i → s ≡ get_or ss i s → new ≡ old ++ section_text (shown s)
    → old ≡ start ++ flat_map section_text (take i (lists_of (slots_of ss))) → new ≡ start ++ flat_map section_text (take j (lists_of (slots_of ss)))
section_next {A} ss i j s start old new lt step is pushed so_far =
    let db = lists_of (slots_of ss) in
    let front = flat_map section_text (take i db) in
    let piece = section_text (shown s) in
    let t = section_turn ss i (suc i) s lt refl is in
    let more : flat_map section_text (take j db) ≡ front ++ piece =
    ap (λ k. flat_map section_text (take k db)) step ∙ ap (flat_map section_text) (take_next db i (shown s) t.here)
    ∙ flat_map-append section_text (take i db) (shown s ∷ [])
    ∙ ap (λ (x : List ℕ). front ++ x) (flat_map-cons section_text (shown s) [] ∙ append-nil piece) in
    pushed ∙ ap (λ (x : List ℕ). x ++ piece) so_far ∙ append_assoc start front piece ∙ ap (λ (x : List ℕ). start ++ x) (sym more)

-- the number of areas, after what was written before
abbrev pub counted : List ℕ → Lists → List ℕ
counted start db = start ++ to_be_bytes w8 (area_count db)

pub sections_done : {A : Type 0} → (ss : List (SectionOf A)) (i : ℕ) (start out : List ℕ) → length ss ≤ i
    → out ≡ counted start (lists_of (slots_of ss)) ++ flat_map section_text (take i (lists_of (slots_of ss)))
    → out ≡ start ++ sections_text (lists_of (slots_of ss))
sections_done {A} ss i start out all so_far =
    let db = lists_of (slots_of ss) in
    so_far ∙ ap (λ (xs : Lists). counted start db ++ flat_map section_text xs) (take_all i db (omega (arith, section_count ss)))
    ∙ append_assoc start (to_be_bytes w8 (area_count db)) (flat_map section_text db)
