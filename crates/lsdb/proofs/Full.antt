-- The LSAs of slots, one after another.
use Rattle.std.proofs.Common.{◌≡◌, ℕ, ◌+◌, ◌<◌, List, [], ◌∷◌, ◌++◌, length, get_or, take, Some, None, refl, sym, ap, ◌∙◌, append_assoc}
use Rattle.std.specs.List.{concat}
use Rattle.std.proofs.lemmas.List.{append-nil, take_more}
use Rattle.lsdb.specs.declared.database.SectionOf.{SectionOf}
use Rattle.lsdb.specs.Lists.{SectionLsas, Lists}
use Rattle.lsdb.specs.Slots.{Slot, full, section_of, lists_of}
use Rattle.lsdb.specs.steps.View.{section_slots_of, slots_of}

pub full-push : (ps : List Slot) (x : List ℕ) → full (ps ++ Some x ∷ []) ≡ full ps ++ x ∷ []
full-push [] x = refl
full-push (None ∷ ps) x = full-push ps x
full-push (Some y ∷ ps) x = ap (λ (ys : List (List ℕ)). y ∷ ys) (full-push ps x)

pub full-skip : (ps : List Slot) → full (ps ++ None ∷ []) ≡ full ps
full-skip [] = refl
full-skip (None ∷ ps) = full-skip ps
full-skip (Some y ∷ ps) = ap (λ (ys : List (List ℕ)). y ∷ ys) (full-skip ps)

pub concat-push : (xs : List (List ℕ)) (y : List ℕ) → concat (xs ++ y ∷ []) ≡ concat xs ++ y
concat-push [] y = append-nil y
concat-push (x ∷ xs) y = ap (λ (t : List ℕ). x ++ t) (concat-push xs y) ∙ sym (append_assoc x (concat xs) y)

-- the LSA of one slot more is written after the others
pub written_full : (ps : List Slot) (i : ℕ) (p : Slot) (x start old new : List ℕ) → i < length ps
    → p ≡ get_or ps i p → p ≡ Some x → new ≡ old ++ x → old ≡ start ++ concat (full (take i ps))
    → new ≡ start ++ concat (full (take (i + 1) ps))
written_full ps i p x start old new lt here is pushed so_far =
    let more : take (i + 1) ps ≡ take i ps ++ Some x ∷ [] = take_more ps i p lt ∙ ap (λ (q : Slot). take i ps ++ q ∷ []) (sym here ∙ is) in
    let text : concat (full (take (i + 1) ps)) ≡ concat (full (take i ps)) ++ x =
    ap (λ (qs : List Slot). concat (full qs)) more ∙ ap concat (full-push (take i ps) x) ∙ concat-push (full (take i ps)) x in
    pushed ∙ ap (λ (t : List ℕ). t ++ x) so_far ∙ append_assoc start (concat (full (take i ps))) x ∙ ap (λ (t : List ℕ). start ++ t) (sym text)

pub written_empty : (ps : List Slot) (i : ℕ) (p : Slot) (start new : List ℕ) → i < length ps
    → p ≡ get_or ps i p → p ≡ None → new ≡ start ++ concat (full (take i ps))
    → new ≡ start ++ concat (full (take (i + 1) ps))
written_empty ps i p start new lt here is so_far =
    let more : take (i + 1) ps ≡ take i ps ++ None ∷ [] = take_more ps i p lt ∙ ap (λ (q : Slot). take i ps ++ q ∷ []) (sym here ∙ is) in
    so_far ∙ ap (λ (xs : List (List ℕ)). start ++ concat xs) (sym (ap full more ∙ full-skip (take i ps)))

-- ---- sections

abbrev pub shown : {A : Type 0} → SectionOf A → SectionLsas
shown s = section_of (section_slots_of s)

pub lists_of-push : {A : Type 0} → (ss : List (SectionOf A)) (s : SectionOf A)
    → lists_of (slots_of (ss ++ s ∷ [])) ≡ lists_of (slots_of ss) ++ shown s ∷ []
lists_of-push {A} [] s = refl
lists_of-push {A} (t ∷ ss) s = ap (λ (xs : Lists). shown t ∷ xs) (lists_of-push ss s)
