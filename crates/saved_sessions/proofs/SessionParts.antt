-- Different sessions have different dumps.
use Rattle.std.proofs.Common.{◌≡◌, ℕ, ◌+◌, ◌^◌, ◌<◌, ◌≤◌, List, [], ◌∷◌, ◌++◌, length, take, drop, Option, Some, Result, Ok}
use Rattle.std.proofs.Common.{sym, ap, ◌∙◌, append_assoc, arith, refl}
use Rattle.std.specs.Prelude.{All}
use Rattle.std.specs.Int.{w16, to_be_bytes, from_be_bytes}
use Rattle.std.proofs.lemmas.List.{append_cancel_left, length-append, take_at, drop_at}
use Rattle.std.proofs.lemmas.List.Concat.{flat_map-cons}
use Rattle.std.proofs.lemmas.List.Elements.{All-head, All-tail, All-append}
use Rattle.std.proofs.lemmas.Nat.{from_be_bytes-to_be_bytes_2}
use Rattle.edit_script.specs.declared.edit.Edit.{Edit}
use Rattle.edit_script.specs.Spelling.{spelling, IsScripted}
use Rattle.lsdb.specs.declared.fault.DumpFault.{DumpFault}
use Rattle.lsdb.specs.Limits.{longest_session}
use Rattle.lsdb.specs.Lists.{Lists, IsDatabase}
use Rattle.lsdb.specs.BaseText.{base_text}
use Rattle.lsdb.specs.BaseLoading.{base_loaded}
use Rattle.saved_sessions.specs.Lines.{line_feed, line_of, lines_of, edit_line}
use Rattle.saved_sessions.specs.Text.{history_text, session_text, IsHistory}

-- ---- the lines

abbrev pub LineIsRead : Type 0
LineIsRead = (edit : Edit) (rest : List ℕ) → IsScripted edit → edit_line (line_of edit ++ rest) ≡ Some (edit, length (line_of edit))

abbrev read : Edit → ℕ → Option (Edit × ℕ)
read edit byte_count = Some (edit, byte_count)

same_edit : (x y : Edit) (m n : ℕ) → read x m ≡ read y n → x ≡ y
same_edit x y m n e = let same : (x, m) ≡ (y, n) = cc in ap (λ (p : Edit × ℕ). p.0) same

some_bytes : (edit : Edit) (rest : List ℕ) → [] ≡ line_of edit ++ rest → ⊥
some_bytes edit rest e = let none : 0 ≡ length (line_of edit) + length rest = ap length e ∙ length-append (line_of edit) rest in
    let size : length (line_of edit) ≡ length (spelling edit) + 1 = length-append (spelling edit) (line_feed ∷ []) in
    omega arith

first_same : LineIsRead → (x y : Edit) (a b : List ℕ) → IsScripted x → IsScripted y → line_of x ++ a ≡ line_of y ++ b → (x ≡ y) × (a ≡ b)
first_same law x y a b p q e =
    let same : x ≡ y = same_edit x y (length (line_of x)) (length (line_of y)) (sym (law x a p) ∙ ap edit_line e ∙ law y b q) in
    (same, append_cancel_left (line_of x) a b (e ∙ ap (λ (z : Edit). line_of z ++ b) (sym same)))

lines_same : LineIsRead → (xs ys : List Edit) → All IsScripted xs → All IsScripted ys → lines_of xs ≡ lines_of ys → xs ≡ ys
lines_same law [] [] p q e = refl
lines_same law [] (y ∷ ys) p q e = absurd (some_bytes y (lines_of ys) (e ∙ flat_map-cons line_of y ys))
lines_same law (x ∷ xs) [] p q e = absurd (some_bytes x (lines_of xs) (sym e ∙ flat_map-cons line_of x xs))
lines_same law (x ∷ xs) (y ∷ ys) p q e =
    let both = first_same law x y (lines_of xs) (lines_of ys) (All-head IsScripted x xs p) (All-head IsScripted y ys q)
    (sym (flat_map-cons line_of x xs) ∙ e ∙ flat_map-cons line_of y ys) in
    let rest : xs ≡ ys = lines_same law xs ys (All-tail IsScripted x xs p) (All-tail IsScripted y ys q) both.1 in
    ap (λ (z : Edit). z ∷ xs) both.0 ∙ ap (λ (zs : List Edit). y ∷ zs) rest

-- ---- the numbers before the lines

number_same : (m n : ℕ) (a b : List ℕ) → m < 2 ^ 16 → n < 2 ^ 16 → to_be_bytes w16 m ++ a ≡ to_be_bytes w16 n ++ b → (m ≡ n) × (a ≡ b)
number_same m n a b p q e =
    let front : to_be_bytes w16 m ≡ to_be_bytes w16 n =
    sym (take_at (to_be_bytes w16 m) a 2 refl) ∙ ap (take 2) e ∙ take_at (to_be_bytes w16 n) b 2 refl in
    let same : m ≡ n = sym (from_be_bytes-to_be_bytes_2 m p) ∙ ap (from_be_bytes w16) front ∙ from_be_bytes-to_be_bytes_2 n q in
    (same, append_cancel_left (to_be_bytes w16 m) a b (e ∙ ap (λ (k : ℕ). to_be_bytes w16 k ++ b) (sym same)))

history-split : (d u : List Edit) → history_text d u ≡ to_be_bytes w16 (length d) ++ (to_be_bytes w16 (length u) ++ lines_of (d ++ u))
history-split d u = append_assoc (to_be_bytes w16 (length d)) (to_be_bytes w16 (length u)) (lines_of (d ++ u))

history_same : LineIsRead → (d u e v : List Edit) → IsHistory d u → IsHistory e v → history_text d u ≡ history_text e v → (d ≡ e) × (u ≡ v)
history_same law d u e v p q h =
    let first = number_same (length d) (length e) _ _ p.few_done q.few_done (sym (history-split d u) ∙ h ∙ history-split e v) in
    let second = number_same (length u) (length v) _ _ p.few_undone q.few_undone first.1 in
    let all : d ++ u ≡ e ++ v = lines_same law (d ++ u) (e ++ v) (All-append IsScripted d u p.done_fit p.undone_fit)
    (All-append IsScripted e v q.done_fit q.undone_fit) second.1 in
    let done : d ≡ e = sym (take_at d u (length d) refl) ∙ ap (take (length d)) all ∙ take_at e v (length d) (sym first.0) in
    let undone : u ≡ v = sym (drop_at d u (length d) refl) ∙ ap (drop (length d)) all ∙ drop_at e v (length d) (sym first.0) in
    (done, undone)

-- ---- the session

abbrev pub BaseIsRead : Type 0
BaseIsRead = (db : Lists) (rest : List ℕ) → IsDatabase db → length (base_text db ++ rest) ≤ longest_session
    → base_loaded (base_text db ++ rest) ≡ Ok (db, length (base_text db))

abbrev loaded : Lists → ℕ → Result (Lists × ℕ) DumpFault
loaded db byte_count = Ok (db, byte_count)

same_base : (a b : Lists) (m n : ℕ) → loaded a m ≡ loaded b n → a ≡ b
same_base a b m n e = let same : (a, m) ≡ (b, n) = cc in ap (λ (p : Lists × ℕ). p.0) same

pub one_session : BaseIsRead → LineIsRead → (a b : Lists) (d u e v : List Edit) → IsDatabase a → IsDatabase b
    → IsHistory d u → IsHistory e v → length (session_text a d u) ≤ longest_session
    → session_text a d u ≡ session_text b e v → (a ≡ b) × (d ≡ e) × (u ≡ v)
unfolding session_text
one_session base line a b d u e v good fine p q small h =
    let short : length (base_text b ++ history_text e v) ≤ longest_session = omega (arith, small, ap length h) in
    let same : a ≡ b = same_base a b (length (base_text a)) (length (base_text b))
    (sym (base a (history_text d u) good small) ∙ ap base_loaded h ∙ base b (history_text e v) fine short) in
    let rest : history_text d u ≡ history_text e v =
    append_cancel_left (base_text a) (history_text d u) (history_text e v) (h ∙ ap (λ (x : Lists). base_text x ++ history_text e v) (sym same)) in
    let both = history_same line d u e v p q rest in
    (same, both.0, both.1)
