-- The line of an edit is short, and so is the dump of a session with few edits.
use Rattle.std.proofs.Common.{◌≡◌, ℕ, ◌+◌, ◌*◌, ◌^◌, ◌<◌, ◌≤◌, List, [], ◌∷◌, ◌++◌, length, ap, ◌∙◌, arith}
use Rattle.std.specs.Prelude.{All, codes, decimal}
use Rattle.std.specs.Int.{w16, to_be_bytes}
use Rattle.std.specs.List.{join_with_byte}
use Rattle.std.proofs.lemmas.Fmt.{length-decimal-le}
use Rattle.std.proofs.lemmas.List.{length-append}
use Rattle.std.proofs.lemmas.List.Concat.{flat_map-cons}
use Rattle.std.proofs.lemmas.List.Elements.{All-head, All-tail, All-append}
use Rattle.lsa_codec.specs.Prefix.{Net}
use Rattle.lsa_codec.specs.Spelling.{address_text, prefix_text}
use Rattle.edit_script.specs.declared.edit.Edit.{Edit}
use Rattle.edit_script.specs.declared.edit.Edit.TheVariants.{Cost, DropLink, FailLink, FailNet, FailRouter, AddStub, Summary, AddSummary, AddExternal}
use Rattle.edit_script.specs.declared.edit.Edit.TheVariants.{DropExternal, Refresh, Event as of_event}
use Rattle.edit_script.specs.declared.event.Event.TheVariants as events
use Rattle.edit_script.specs.declared.edit.MetricType.{MetricType}
use Rattle.edit_script.specs.declared.edit.MetricType.TheVariants.{Type1, Type2}
use Rattle.edit_script.specs.Words.{Word}
use Rattle.edit_script.specs.Spelling.{spelling, type_text, edit_words, IsScripted, IsPrefix}
use Rattle.lsdb.specs.Limits.{longest_dump}
use Rattle.lsdb.specs.Lists.{Lists, IsDatabase, size}
use Rattle.lsdb.specs.BaseText.{base_text}
use Rattle.saved_sessions.specs.Lines.{line_feed, line_of, lines_of, longest_line}
use Rattle.saved_sessions.specs.Text.{history_text, session_text, IsHistory}

-- ---- words

-- a number has at most this number of digits
number : (k n : ℕ) → 0 < k → n < 10 ^ k → n < 2 ^ 64 → length (decimal n) ≤ k
number k n some below wide = length-decimal-le k n some below wide

byte : (n : ℕ) → n < 256 → length (decimal n) ≤ 3
byte n below = number 3 n (omega arith) (omega arith) (omega arith)

dotted : (a b c d : List ℕ) → length a ≤ 3 → length b ≤ 3 → length c ≤ 3 → length d ≤ 3
    → length (join_with_byte 46 (a ∷ b ∷ c ∷ d ∷ [])) ≤ 15
dotted a b c d p q r s =
    let l1 = length-append a (46 ∷ (b ++ 46 ∷ (c ++ 46 ∷ d))) in
    let l2 = length-append b (46 ∷ (c ++ 46 ∷ d)) in
    let l3 = length-append c (46 ∷ d) in
    omega arith

address : (n : ℕ) → length (address_text n) ≤ 15
address n = dotted _ _ _ _ (byte _ (omega arith)) (byte _ (omega arith)) (byte _ (omega arith)) (byte _ (omega arith))

prefix : (net : Net) → IsPrefix net → length (prefix_text net) ≤ 18
prefix net h =
    let short : net.len ≤ 32 = h.prefix.short in
    let len : length (decimal net.len) ≤ 2 = number 2 net.len (omega arith) (omega arith) (omega arith) in
    let at : length (address_text net.addr.0) ≤ 15 = address net.addr.0 in
    let outer = length-append (address_text net.addr.0 ++ codes "/") (decimal net.len) in
    let inner = length-append (address_text net.addr.0) (codes "/") in
    omega arith

type : (t : MetricType) → length (type_text t) ≤ 1
type Type1 = omega arith
type Type2 = omega arith

-- ---- lines

-- the bytes of words, with one additional byte after each
abbrev room : List Word → ℕ
room [] = 0
room (word ∷ words) = length word + 1 + room words

joined : (word : Word) (words : List Word) → length (join_with_byte 32 (word ∷ words)) + 1 ≡ room (word ∷ words)
joined word [] = let one : length word + 1 ≡ length word + 1 + 0 = omega arith in one
joined word (next ∷ words) =
    let rest : List ℕ = join_with_byte 32 (next ∷ words) in
    let outer : length (word ++ 32 ∷ rest) ≡ length word + length (32 ∷ rest) = length-append word (32 ∷ rest) in
    let after = joined next words in
    let all : length (word ++ 32 ∷ rest) + 1 ≡ length word + 1 + room (next ∷ words) = omega (arith, outer, after) in
    all

few_bytes : (edit : Edit) → IsScripted edit → room (edit_words edit) ≤ 86
few_bytes (Cost area router link metric) h =
    omega (arith, address area.0, address router.0, number 5 link (omega arith) (omega arith) (omega arith), number 5 metric (omega arith) (omega arith) (omega arith))
few_bytes (DropLink area router link) h =
    omega (arith, address area.0, address router.0, number 5 link (omega arith) (omega arith) (omega arith))
few_bytes (FailLink area router neighbor) h = omega (arith, address area.0, address router.0, address neighbor.0)
few_bytes (FailNet area network) h = omega (arith, address area.0, address network.0)
few_bytes (FailRouter router) h = omega (arith, address router.0)
few_bytes (AddStub area router net metric) h =
    omega (arith, address area.0, address router.0, prefix net h.2, number 5 metric (omega arith) (omega arith) (omega arith))
few_bytes (Summary area router net metric) h =
    omega (arith, address area.0, address router.0, prefix net h.2, number 8 metric (omega arith) (omega arith) (omega arith))
few_bytes (AddSummary area router net metric) h =
    omega (arith, address area.0, address router.0, prefix net h.2, number 8 metric (omega arith) (omega arith) (omega arith))
few_bytes (AddExternal router net t metric forward tag) h =
    omega (
      arith,
      address router.0,
      prefix net h.1,
      type t,
      number 8 metric (omega arith) (omega arith) (omega arith),
      address forward.0,
      number 10 tag (omega arith) (omega arith) (omega arith),
    )
few_bytes (DropExternal router net) h = omega (arith, address router.0, prefix net h.1)
few_bytes Refresh h = omega arith
few_bytes (of_event event) h = absurd h

as_joined : (words : List Word) → 0 < length words → length (join_with_byte 32 words) + 1 ≡ room words
as_joined [] some = absurd (omega arith)
as_joined (word ∷ words) some = joined word words

some_words : (edit : Edit) → 0 < length (edit_words edit)
some_words (Cost area router link metric) = omega arith
some_words (DropLink area router link) = omega arith
some_words (FailLink area router neighbor) = omega arith
some_words (FailNet area network) = omega arith
some_words (FailRouter router) = omega arith
some_words (AddStub area router net metric) = omega arith
some_words (Summary area router net metric) = omega arith
some_words (AddSummary area router net metric) = omega arith
some_words (AddExternal router net t metric forward tag) = omega arith
some_words (DropExternal router net) = omega arith
some_words Refresh = omega arith
some_words (of_event (events.Cut router neighbor address)) = omega arith
some_words (of_event (events.Leave router net)) = omega arith
some_words (of_event (events.SetCost router far metric both)) = omega arith
some_words (of_event (events.Drain router)) = omega arith
some_words (of_event (events.Fail router)) = omega arith

pub short_line : (edit : Edit) → IsScripted edit → length (line_of edit) ≤ longest_line
short_line edit h =
    let size : length (line_of edit) ≡ length (spelling edit) + 1 = length-append (spelling edit) (line_feed ∷ []) in
    omega (arith, size, as_joined (edit_words edit) (some_words edit), few_bytes edit h)

short_lines : (edits : List Edit) → All IsScripted edits → length (lines_of edits) ≤ longest_line * length edits
short_lines [] h = omega arith
short_lines (edit ∷ edits) h =
    let one = short_line edit (All-head IsScripted edit edits h) in
    let rest = short_lines edits (All-tail IsScripted edit edits h) in
    let both : length (lines_of (edit ∷ edits)) ≡ length (line_of edit) + length (lines_of edits) =
    ap length (flat_map-cons line_of edit edits) ∙ length-append (line_of edit) (lines_of edits) in
    omega arith

-- ---- sessions

pub short_session : (base : Lists) (done undone : List Edit) → length (base_text base) ≡ size base → IsDatabase base → IsHistory done undone
    → length (session_text base done undone) ≤ longest_dump + 4 + longest_line * (length done + length undone)
unfolding session_text
short_session base done undone byte_count good fine =
    let numbers : List ℕ = to_be_bytes w16 (length done) ++ to_be_bytes w16 (length undone) in
    let lines = short_lines (done ++ undone) (All-append IsScripted done undone fine.done_fit fine.undone_fit) in
    let count = length-append done undone in
    let whole = length-append (base_text base) (history_text done undone) in
    let history : length (history_text done undone) ≡ 4 + length (lines_of (done ++ undone)) = length-append numbers (lines_of (done ++ undone)) in
    let small : size base ≤ longest_dump = good.small in
    omega arith
