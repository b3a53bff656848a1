-- One turn of the loop that undoes swaps from the last to the first.
use Rattle.std.proofs.Common.{◌≡◌, ℕ, zero, suc, ◌<◌, ◌≤◌, List, [], ◌∷◌, ◌++◌, length, get_or, take, drop, refl, sym, ap, ◌∙◌, subst, arith}
use Rattle.std.specs.Prelude.{IsSome, slice_set}
use Rattle.lsdb.specs.Slots.{Slots, put, slot_at, lists_of}
use Rattle.lsdb.specs.Lists.{IsDatabase}
use Rattle.edit_history.specs.Exchange.{SwapData, taken, undone_slots, undone_swaps, CanUndo}

-- what undoing one more swap needs and gives
pub record UndoesOne (d : Slots) (ss : List SwapData) (i : ℕ) (s : SwapData) : Type 0 where
  pub exists : IsSome (slot_at (undone_slots d (drop (suc i) ss)) s.slot)
  pub sound : IsDatabase (lists_of (put (undone_slots d (drop (suc i) ss)) s.slot s.other))
  pub slots : undone_slots d (drop i ss) ≡ put (undone_slots d (drop (suc i) ss)) s.slot s.other
  pub swaps : undone_swaps d (drop i ss) ≡ taken (undone_slots d (drop (suc i) ss)) s ∷ undone_swaps d (drop (suc i) ss)

pub undo_one : (d : Slots) (ss : List SwapData) (i : ℕ) (s : SwapData) → i < length ss → CanUndo d ss → s ≡ get_or ss i s → UndoesOne d ss i s
undo_one d [] i s lt can is = absurd (omega arith)
undo_one d (t ∷ ss) zero s lt can is =
    subst (λ (u : SwapData). UndoesOne d (t ∷ ss) zero u) (sym is) (record { exists = can.1; sound = can.2; slots = refl; swaps = refl })
undo_one d (t ∷ ss) (suc i) s lt can is =
    let rest = undo_one d ss i s (omega arith) can.0 is in
    record { exists = rest.exists; sound = rest.sound; slots = rest.slots; swaps = rest.swaps }

pub get_or-front : (ss ts : List SwapData) (i : ℕ) (s : SwapData) → i < length ss → get_or (take (suc i) ss ++ ts) i s ≡ get_or ss i s
get_or-front [] ts i s lt = absurd (omega arith)
get_or-front (t ∷ ss) ts zero s lt = refl
get_or-front (t ∷ ss) ts (suc i) s lt = get_or-front ss ts i s (omega arith)

pub set-front : (ss ts : List SwapData) (i : ℕ) (s : SwapData) → i < length ss → slice_set (take (suc i) ss ++ ts) i s ≡ take i ss ++ s ∷ ts
set-front [] ts i s lt = absurd (omega arith)
set-front (t ∷ ss) ts zero s lt = refl
set-front (t ∷ ss) ts (suc i) s lt = ap (λ (us : List SwapData). t ∷ us) (set-front ss ts i s (omega arith))

-- the list in memory before a turn, by the swap at its index
pub undo_turn : (d now : Slots) (ss items : List SwapData) (i j : ℕ) (s : SwapData) → j ≡ suc i → j ≤ length ss → CanUndo d ss
    → now ≡ undone_slots d (drop j ss) → items ≡ take j ss ++ undone_swaps d (drop j ss) → s ≡ get_or items i s
    → IsSome (slot_at now s.slot) × IsDatabase (lists_of (put now s.slot s.other)) × (put now s.slot s.other ≡ undone_slots d (drop i ss))
    × (slice_set items i (taken now s) ≡ take i ss ++ undone_swaps d (drop i ss))
undo_turn d now ss items i j s next le can slots is reads =
    let lt : i < length ss = omega arith in
    let slots_at : now ≡ undone_slots d (drop (suc i) ss) = slots ∙ ap (λ (k : ℕ). undone_slots d (drop k ss)) next in
    let items_at : items ≡ take (suc i) ss ++ undone_swaps d (drop (suc i) ss) = is ∙ ap (λ (k : ℕ). take k ss ++ undone_swaps d (drop k ss)) next in
    let here : s ≡ get_or ss i s = reads ∙ ap (λ (us : List SwapData). get_or us i s) items_at
    ∙ get_or-front ss (undone_swaps d (drop (suc i) ss)) i s lt in
    let one = undo_one d ss i s lt can here in (
      subst (λ (u : Slots). IsSome (slot_at u s.slot)) (sym slots_at) one.exists,
      subst (λ (u : Slots). IsDatabase (lists_of (put u s.slot s.other))) (sym slots_at) one.sound,
      ap (λ (u : Slots). put u s.slot s.other) slots_at ∙ sym one.slots,
      ap (λ (us : List SwapData). slice_set us i (taken now s)) items_at
          ∙ set-front ss (undone_swaps d (drop (suc i) ss)) i (taken now s) lt
          ∙ ap (λ (u : Slots). take i ss ++ taken u s ∷ undone_swaps d (drop (suc i) ss)) slots_at
          ∙ ap (λ (us : List SwapData). take i ss ++ us) (sym one.swaps),
    )
