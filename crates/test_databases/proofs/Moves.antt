-- Edits that are taken back, or carried out again, one at a time.
use Rattle.std.proofs.Common.{◌≡◌, ℕ, zero, suc, false, true, ◌+◌, ◌-◌, ◌≤◌, List, ◌++◌, length, take, drop, append_assoc, refl, sym, ap, ◌∙◌, arith}
use Rattle.std.proofs.Math.Seq.{take-add}
use Rattle.std.proofs.lemmas.Bool.{false≢true}
use Rattle.std.proofs.lemmas.List.{length-take, length-drop, take-take, drop-take, drop-drop, take-append-drop, take_all, drop_all}
use Rattle.lsdb.specs.Lists.{Lists}
use Rattle.edit_script.specs.declared.edit.Edit.{Edit}
use Rattle.edit_history.specs.Journal.{HistoryData}
use Rattle.edit_history.specs.Session.{Session, session_of, moved_back, moved_on}
use Rattle.edit_history.proofs.HistoryLemmas.{done_len, undone_len}
use Rattle.lsdb.specs.Slots.{Slots}
use Rattle.test_databases.specs.declared.edited.Way.{Way}
use Rattle.test_databases.specs.declared.edited.Way.TheVariants.{Back, On}
use Rattle.test_databases.specs.Edited.{movable, moved}

-- sessions with the same parts
pub same_session : (s t : Session) → s.base ≡ t.base → s.done ≡ t.done → s.undone ≡ t.undone → s ≡ t
same_session s t base done undone =
    ap (λ (x : Lists). let r : Session = record { base = x; done = s.done; undone = s.undone } in r) base
    ∙ ap (λ (x : List Edit). let r : Session = record { base = t.base; done = x; undone = s.undone } in r) done
    ∙ ap (λ (x : List Edit). let r : Session = record { base = t.base; done = t.done; undone = x } in r) undone

-- none are left where not even one can be moved
pub none_left : (n : ℕ) → (1 ≤ n → false ≡ true) → n ≡ 0
none_left zero refused = refl
none_left (suc n) refused = absurd (false≢true (refused (omega arith)))

-- ---- back

-- the last edit before those that were taken back earlier
one_in_front : (done undone : List Edit) (m k n : ℕ) → k ≡ m + 1 → n ≡ m → drop n (take k done) ++ (drop k done ++ undone) ≡ drop m done ++ undone
one_in_front done undone m k n next same =
    ap (λ (x : ℕ). drop x (take k done) ++ (drop k done ++ undone)) same
    ∙ ap (λ (x : ℕ). drop m (take x done) ++ (drop x done ++ undone)) next
    ∙ ap (λ (es : List Edit). es ++ (drop (m + 1) done ++ undone)) (drop-take m 1 done)
    ∙ ap (λ (es : List Edit). take 1 (drop m done) ++ (es ++ undone)) (sym (drop-drop 1 m done))
    ∙ sym (append_assoc (take 1 (drop m done)) (drop 1 (drop m done)) undone)
    ∙ ap (λ (es : List Edit). es ++ undone) (take-append-drop 1 (drop m done))

back_one : (s now next : Session) (i : ℕ) → i + 1 ≤ length s.done → now ≡ moved_back i s → next ≡ moved_back 1 now → next ≡ moved_back (i + 1) s
back_one s now next i le at step =
    let m = length s.done - (i + 1) in
    let k = length s.done - i in
    let more : k ≡ m + 1 = omega arith in
    let cut : length (take k s.done) - 1 ≡ m = omega (arith, length-take k s.done) in
    step ∙ ap (moved_back 1) at
    ∙ same_session (moved_back 1 (moved_back i s)) (moved_back (i + 1) s) refl
    (ap (λ (x : ℕ). take x (take k s.done)) cut ∙ take-take m k s.done (omega arith))
    (one_in_front s.done s.undone m k (length (take k s.done) - 1) more cut)

-- the session with the done edits from a place on taken back
abbrev back_from : Session → ℕ → Session
back_from s m = record { base = s.base; done = take m s.done; undone = drop m s.done ++ s.undone }

-- where all are taken back, no more can be
back_all : (s now : Session) (i j : ℕ) → length s.done ≤ i → length s.done ≤ j → now ≡ moved_back i s → now ≡ moved_back j s
back_all s now i j all more at =
    let same : length s.done - i ≡ length s.done - j = omega arith in
    at ∙ ap (back_from s) same

back_count : (s next : Session) → next ≡ moved_back 1 s → 1 ≤ length s.done → length s.done ≡ length next.done + 1
back_count s next is some =
    omega (arith, length-take (length s.done - 1) s.done, ap (λ (t : Session). length t.done) is)

-- ---- on

on_one : (s now next : Session) (i : ℕ) → now ≡ moved_on i s → next ≡ moved_on 1 now → next ≡ moved_on (i + 1) s
on_one s now next i at step =
    step ∙ ap (moved_on 1) at
    ∙ same_session (moved_on 1 (moved_on i s)) (moved_on (i + 1) s) refl
    (append_assoc s.done (take i s.undone) (take 1 (drop i s.undone)) ∙ ap (λ (es : List Edit). s.done ++ es) (sym (take-add i 1 s.undone)))
    (drop-drop 1 i s.undone)

-- where all are carried out again, no more can be
on_all : (s now : Session) (i j : ℕ) → length s.undone ≤ i → length s.undone ≤ j → now ≡ moved_on i s → now ≡ moved_on j s
on_all s now i j all more at =
    at ∙ same_session (moved_on i s) (moved_on j s) refl
    (ap (λ (es : List Edit). s.done ++ es) (take_all i s.undone all ∙ sym (take_all j s.undone more)))
    (drop_all i s.undone all ∙ sym (drop_all j s.undone more))

on_count : (s next : Session) → next ≡ moved_on 1 s → 1 ≤ length s.undone → length s.undone ≡ length next.undone + 1
on_count s next is some = omega (arith, length-drop 1 s.undone, ap (λ (t : Session). length t.undone) is)

-- ---- either way

-- how many edits can move
abbrev pub count : Way → Session → ℕ
count Back s = length s.done
count On s = length s.undone

pub movable_len : (way : Way) (d : Slots) (h : HistoryData) → count way (session_of d h) ≡ length (movable way h)
movable_len Back d h = done_len d h
movable_len On d h = undone_len d h

pub one_more : (way : Way) (s now next : Session) (i : ℕ) → i + 1 ≤ count way s → now ≡ moved way i s → next ≡ moved way 1 now
    → next ≡ moved way (i + 1) s
one_more Back s now next i le at step = back_one s now next i le at step
one_more On s now next i le at step = on_one s now next i at step

pub all_moved : (way : Way) (s now : Session) (i j : ℕ) → count way s ≤ i → count way s ≤ j → now ≡ moved way i s → now ≡ moved way j s
all_moved Back s now i j all more at = back_all s now i j all more at
all_moved On s now i j all more at = on_all s now i j all more at

pub one_fewer : (way : Way) (s next : Session) → next ≡ moved way 1 s → 1 ≤ count way s → count way s ≡ count way next + 1
one_fewer Back s next is some = back_count s next is some
one_fewer On s next is some = on_count s next is some
