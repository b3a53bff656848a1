-- A line that is read as an edit is that edit's line, and the line of an edit is read as the edit.
use Rattle.std.proofs.Common.{◌≡◌, ◌≢◌, ℕ, ◌+◌, ◌<◌, Bool, true, false, cond, eqb, ltb, List, [], ◌∷◌, ◌++◌, length, get_or, take, drop, Option, Some}
use Rattle.std.proofs.Common.{None, Result, Ok, Err, refl, sym, ap, subst, ◌∙◌, append_assoc, arith, inl, inr}
use Rattle.std.specs.Prelude.{All, position, option_map, bytes_eq}
use Rattle.std.specs.List.{position_or_len}
use Rattle.std.proofs.lemmas.Bool.{cases_lt, cases_Bool, cond-true, cond-false, lt-ltb, le-ltb, eqb-true, eq-eqb, ne_eqb}
use Rattle.std.proofs.lemmas.List.{length-append, take_at, get_or_append_left, get_or_at, length-take}
use Rattle.std.proofs.lemmas.List.Sums.{split_at_first, passes_at_first, position_or_len_is}
use Rattle.std.proofs.lemmas.Slice.Eq.{bytes_eq-Decides}
use Rattle.edit_script.specs.declared.command.Command.{Command}
use Rattle.edit_script.specs.declared.command.Command.TheVariants as command
use Rattle.edit_script.specs.declared.edit.Edit.{Edit}
use Rattle.edit_script.specs.declared.fault.ScriptFault.{ScriptFault}
use Rattle.edit_script.specs.Line.{meaning}
use Rattle.edit_script.specs.Spelling.{spelling, IsScripted}
use Rattle.saved_sessions.specs.Lines.{line_feed, line_of, if_spelled, edit_in, edit_meant, edit_spelled, line_up_to, edit_line}

abbrev pub is_feed : ℕ → Bool
is_feed byte = eqb byte line_feed

-- ---- a line that is cut off

-- the bytes up to the first line feed, and those after it
pub cut : (bytes : List ℕ) (end : ℕ) → position is_feed bytes ≡ Some end
    → (end < length bytes) × (bytes ≡ (take end bytes ++ line_feed ∷ []) ++ drop (end + 1) bytes)
cut bytes end is =
    elim (cases_lt (position_or_len is_feed bytes) (length bytes)) [
      | inl lt ↦
          let first : ℕ = position_or_len is_feed bytes in
          let e : position is_feed bytes ≡ Some first = cond-true _ _ _ (lt-ltb _ _ lt) in
          let same : first ≡ end = cc in
          let feed : get_or bytes first 0 ≡ line_feed = eqb-true _ _ (passes_at_first is_feed bytes 0 lt) in
          let parts : bytes ≡ take first bytes ++ get_or bytes first 0 ∷ drop (first + 1) bytes = split_at_first is_feed bytes 0 lt in
          let whole : bytes ≡ (take first bytes ++ line_feed ∷ []) ++ drop (first + 1) bytes =
          parts ∙ ap (λ (b : ℕ). take first bytes ++ b ∷ drop (first + 1) bytes) feed
          ∙ sym (append_assoc (take first bytes) (line_feed ∷ []) (drop (first + 1) bytes)) in
          (omega arith, subst (λ (j : ℕ). bytes ≡ (take j bytes ++ line_feed ∷ []) ++ drop (j + 1) bytes) same whole)
      | inr le ↦ absurd (let e : position is_feed bytes ≡ None = cond-false _ _ _ (le-ltb _ _ le) in cc)
    ]

-- the first line feed after bytes without one
pub feed_after : (line rest : List ℕ) → All (λ byte. byte ≢ 10) line → position is_feed (line ++ line_feed ∷ rest) ≡ Some (length line)
feed_after line rest lacks =
    let bytes : List ℕ = line ++ line_feed ∷ rest in
    let long : length line < length bytes = omega (arith, length-append line (line_feed ∷ rest)) in
    let before : (k : ℕ) → k < length line → is_feed (get_or bytes k 0) ≡ false = λ k lt.
    ap is_feed (get_or_append_left line (line_feed ∷ rest) 0 k lt) ∙ ne_eqb _ _ (lacks k 0 lt) in
    let at : is_feed (get_or bytes (length line) 0) ≡ true = eq-eqb _ _ (get_or_at line line_feed rest 0 (length line) refl) in
    let first : position_or_len is_feed bytes ≡ length line = position_or_len_is is_feed bytes (length line) 0 (omega arith) before (λ lt. at) in
    cond-true (ltb (position_or_len is_feed bytes) (length bytes)) (Some (position_or_len is_feed bytes)) None (lt-ltb _ _ (omega (arith, first, long)))
    ∙ ap (λ (n : ℕ). Some n) first

-- ---- reading

abbrev some : Edit → Option Edit
some edit = Some edit

abbrev none : Option Edit
none = None

mapped : (o : Option Edit) (end : ℕ) (edit : Edit) (byte_count : ℕ) → option_map {U = Edit × ℕ} (λ (x : Edit). (x, end + 1)) o ≡ Some (edit, byte_count)
    → (o ≡ Some edit) × (end + 1 ≡ byte_count)
mapped None end edit byte_count h = absurd cc
mapped (Some x) end edit byte_count h =
    let same : (x, end + 1) ≡ (edit, byte_count) = cc in
    (ap (λ (p : Edit × ℕ). Some p.0) same, ap (λ (p : Edit × ℕ). p.1) same)

spelled_is : (line : List ℕ) (x edit : Edit) → if_spelled line x ≡ Some edit → (x ≡ edit) × (line ≡ spelling edit)
spelled_is line x edit h =
    elim (cases_Bool (bytes_eq line (spelling x))) [
      | inl holds ↦
          let found : some x ≡ some edit = sym (cond-true _ (Some x) None holds) ∙ h in
          let same : x ≡ edit = cc in
          (same, (bytes_eq-Decides line (spelling x)).0 holds ∙ ap spelling same)
      | inr fails ↦ absurd (let found : none ≡ some edit = sym (cond-false _ (Some x) None fails) ∙ h in cc)
    ]

in_command : (line : List ℕ) (c : Command) (edit : Edit) → edit_in line c ≡ Some edit → (c ≡ command.Edit edit) × (line ≡ spelling edit)
in_command line (command.Edit x) edit h = let s = spelled_is line x edit h in (ap (λ (e : Edit). command.Edit e) s.0, s.1)
in_command line (command.Undo count) edit h = absurd cc
in_command line (command.Redo count) edit h = absurd cc
in_command line (command.Table router) edit h = absurd cc
in_command line command.Tables edit h = absurd cc
in_command line (command.Compare router) edit h = absurd cc
in_command line command.Info edit h = absurd cc

record IsMeant (line : List ℕ) (r : Result (ℕ × Command) ScriptFault) (edit : Edit) : Type 0 where
  pub branch : ℕ
  pub means : r ≡ Ok (branch, command.Edit edit)
  pub spells : line ≡ spelling edit

meant : (line : List ℕ) (r : Result (ℕ × Command) ScriptFault) (edit : Edit) → edit_meant line r ≡ Some edit → IsMeant line r edit
meant line (Err f) edit h = absurd cc
meant line (Ok found) edit h =
    let s = in_command line found.1 edit h in
    record { branch = found.0; means = ap (λ (c : Command). Ok (found.0, c)) s.0; spells = s.1 }

-- what a line means is in range
abbrev pub KeepsRange : Type 0
KeepsRange = (line : List ℕ) (branch : ℕ) (edit : Edit) → meaning line ≡ Ok (branch, command.Edit edit) → IsScripted edit

abbrev IsLineRead : List ℕ → Edit → ℕ → Type 0
IsLineRead bytes edit byte_count = IsScripted edit × (byte_count ≡ length (line_of edit)) × (bytes ≡ line_of edit ++ drop byte_count bytes)

line_read : KeepsRange → (bytes : List ℕ) (o : Option ℕ) (edit : Edit) (byte_count : ℕ) → position is_feed bytes ≡ o
    → line_up_to bytes o ≡ Some (edit, byte_count) → IsLineRead bytes edit byte_count
line_read range bytes None edit byte_count is h = absurd cc
line_read range bytes (Some end) edit byte_count is h =
    let line : List ℕ = take end bytes in
    let m = mapped (edit_spelled line) end edit byte_count h in
    let found = meant line (meaning line) edit m.0 in
    let c = cut bytes end is in
    let size : length (line_of edit) ≡ end + 1 =
    omega (arith, length-append (spelling edit) (line_feed ∷ []), ap length found.spells, length-take end bytes, c.0) in
    let whole : bytes ≡ line_of edit ++ drop (end + 1) bytes = c.1 ∙ ap (λ (l : List ℕ). (l ++ line_feed ∷ []) ++ drop (end + 1) bytes) found.spells in
    (range line found.branch edit found.means, sym m.1 ∙ sym size, subst (λ (n : ℕ). bytes ≡ line_of edit ++ drop n bytes) m.1 whole)

pub edit_line_is : KeepsRange → (bytes : List ℕ) (edit : Edit) (byte_count : ℕ) → edit_line bytes ≡ Some (edit, byte_count)
    → IsScripted edit × (byte_count ≡ length (line_of edit)) × (bytes ≡ line_of edit ++ drop byte_count bytes)
unfolding edit_line
edit_line_is range bytes edit byte_count h = line_read range bytes (position is_feed bytes) edit byte_count refl h

-- ---- reading back

abbrev pub ReadsBack : Type 0
ReadsBack = (edit : Edit) → IsScripted edit → meaning (spelling edit) ≡ Ok (0, command.Edit edit)

abbrev pub OnOneLine : Type 0
OnOneLine = (edit : Edit) → IsScripted edit → All (λ byte. byte ≢ 10) (spelling edit)

pub edit_line_again : ReadsBack → OnOneLine → (edit : Edit) (rest : List ℕ) → IsScripted edit
    → edit_line (line_of edit ++ rest) ≡ Some (edit, length (line_of edit))
unfolding edit_line
edit_line_again back one edit rest range =
    let text : List ℕ = spelling edit in
    let regrouped : line_of edit ++ rest ≡ text ++ line_feed ∷ rest = append_assoc text (line_feed ∷ []) rest in
    let front : take (length text) (text ++ line_feed ∷ rest) ≡ text = take_at text (line_feed ∷ rest) (length text) refl in
    let size : length text + 1 ≡ length (line_of edit) = omega (arith, length-append text (line_feed ∷ [])) in
    let same : bytes_eq text text ≡ true = (bytes_eq-Decides text text).1 refl in
    ap (λ (bytes : List ℕ). line_up_to bytes (position is_feed bytes)) regrouped
    ∙ ap (λ (o : Option ℕ). line_up_to (text ++ line_feed ∷ rest) o) (feed_after text rest (one edit range))
    ∙ ap (λ (line : List ℕ). option_map {U = Edit × ℕ} (λ (x : Edit). (x, length text + 1)) (edit_spelled line)) front
    ∙ ap (λ (r : Result (ℕ × Command) ScriptFault). option_map {U = Edit × ℕ} (λ (x : Edit). (x, length text + 1)) (edit_meant text r)) (back edit range)
    ∙ ap (λ (b : Bool). option_map {U = Edit × ℕ} (λ (x : Edit). (x, length text + 1)) (cond b (Some edit) None)) same
    ∙ ap (λ (n : ℕ). Some (edit, n)) size
