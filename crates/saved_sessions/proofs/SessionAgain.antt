-- A session that is saved is opened again.
use Rattle.std.proofs.Common.{◌≡◌, ℕ, ◌+◌, ◌*◌, ◌≤◌, Bool, true, false, cond, List, [], ◌++◌, length, Result, Ok, refl, sym, ap, ◌∙◌}
use Rattle.std.proofs.Common.{append_assoc, arith}
use Rattle.std.specs.Prelude.{All, IsOk}
use Rattle.std.specs.Int.{w16, to_be_bytes}
use Rattle.std.proofs.lemmas.List.{append-nil, drop_at, length-append}
use Rattle.std.proofs.lemmas.List.Elements.{All-append}
use Rattle.lsdb.specs.declared.fault.DumpFault.{DumpFault}
use Rattle.lsdb.specs.Limits.{longest_dump, longest_session}
use Rattle.lsdb.specs.Lists.{Lists, IsDatabase}
use Rattle.lsdb.specs.Text.{text}
use Rattle.lsdb.specs.BaseText.{base_text}
use Rattle.lsdb.specs.Loading.{◌>>=◌, At, ended, loaded}
use Rattle.lsdb.specs.BaseLoading.{begins_session, base_loaded}
use Rattle.lsdb.proofs.NumberLemmas.{here}
use Rattle.edit_script.specs.declared.edit.Edit.{Edit}
use Rattle.edit_script.specs.Spelling.{IsScripted}
use Rattle.edit_history.specs.Session.{Session, start, effects, moved_back}
use Rattle.saved_sessions.specs.Lines.{lines_of, longest_line}
use Rattle.saved_sessions.specs.Text.{history_text, session_text, IsHistory}
use Rattle.saved_sessions.specs.Opening.{position_after, lines_from, history_at, session_loaded, dump_loaded, opened}
use Rattle.saved_sessions.specs.Saved.{CanBeSaved, saved_text}
use Rattle.saved_sessions.proofs.Doing.{doing, session_of, none_refused, back_again}
use Rattle.saved_sessions.proofs.LinesAgain.{LineIsRead, lines_again}
use Rattle.saved_sessions.proofs.Numbers.{counts_again}

-- the base is loaded, whatever follows it
abbrev pub BaseIsRead : Type 0
BaseIsRead = (db : Lists) (rest : List ℕ) → IsDatabase db → length (base_text db ++ rest) ≤ longest_session
    → base_loaded (base_text db ++ rest) ≡ Ok (db, length (base_text db))

-- a session with few edits has a short dump
abbrev pub IsShort : Type 0
IsShort = (base : Lists) (done undone : List Edit) → IsDatabase base → IsHistory done undone
    → length (session_text base done undone) ≤ longest_dump + 4 + longest_line * (length done + length undone)

abbrev After : Type 0
After = Result (Session × At) DumpFault

abbrev read : Session → At → After
read s at = Ok (s, at)

-- ---- the edits

all_lines : LineIsRead → (base : Lists) (d u : List Edit) (o : ℕ) → CanBeSaved (session_of base d u)
    → lines_from (length d + length u) 0 (start base) (here o (lines_of (d ++ u)))
    ≡ Ok (doing base (d ++ u), here (o + length (lines_of (d ++ u))) [])
all_lines law base d u o can =
    let es : List Edit = d ++ u in
    let count : length es ≡ length d + length u = length-append d u in
    let fit : All IsScripted es = All-append IsScripted d u can.done_fit can.undone_fit in
    let ok : IsOk (effects base es) = none_refused base d u _ can.accepted.done can.accepted.undone in
    ap (λ (n : ℕ). lines_from n 0 (start base) (here o (lines_of es))) (sym count)
    ∙ ap (λ (xs : List ℕ). lines_from (length es) 0 (start base) (here o xs)) (sym (append-nil (lines_of es)))
    ∙ lines_again law es 0 o base [] [] fit (omega (arith, count, can.few)) ok

history_again : LineIsRead → (base : Lists) (d u : List Edit) (o : ℕ) → CanBeSaved (session_of base d u)
    → history_at base (here o (history_text d u)) ≡ Ok (session_of base d u, here (o + 2 + 2 + length (lines_of (d ++ u))) [])
unfolding history_at
history_again law base d u o can =
    let a : List ℕ = to_be_bytes w16 (length d) in
    let b : List ℕ = to_be_bytes w16 (length u) in
    let lines : List ℕ = lines_of (d ++ u) in
    let end : At = here (o + 2 + 2 + length lines) [] in
    ap (λ (xs : List ℕ). history_at base (here o xs)) (append_assoc a b lines)
    ∙ ap (λ (r : Result (ℕ × ℕ × At) DumpFault). r >>= λ (x : ℕ × ℕ × At). lines_from (x.0 + x.1) 0 (start base) x.2
    >>= λ (found : Session × At). read (moved_back x.1 found.0) found.1) (counts_again (length d) (length u) o lines can.few)
    ∙ ap (λ (r : After). r >>= λ (found : Session × At). read (moved_back (length u) found.0) found.1) (all_lines law base d u (o + 2 + 2) can)
    ∙ ap (λ (s : Session). read s end) (back_again base d u)

-- ---- the session

is_history : (s : Session) → CanBeSaved s → IsHistory s.done s.undone
is_history s can = record { few_done = omega (arith, can.few); few_undone = omega (arith, can.few); done_fit = can.done_fit; undone_fit = can.undone_fit }

begins : (base : Lists) (rest : List ℕ) → begins_session (base_text base ++ rest) ≡ true
unfolding base_text
begins base rest = refl

loaded_again : BaseIsRead → IsShort → LineIsRead → (s : Session) → CanBeSaved s
    → session_loaded (base_text s.base ++ history_text s.done s.undone) ≡ Ok s
unfolding session_loaded session_text
loaded_again base short law s can =
    let first : List ℕ = base_text s.base in
    let rest : List ℕ = history_text s.done s.undone in
    let n : ℕ = length first in
    let few : length (first ++ rest) ≤ longest_dump + 4 + longest_line * (length s.done + length s.undone) =
    short s.base s.done s.undone can.base (is_history s can) in
    let small : length (first ++ rest) ≤ longest_session = omega (arith, few, can.few) in
    ap (λ (r : Result (Lists × ℕ) DumpFault). r >>= λ (x : Lists × ℕ). history_at x.0 (position_after x.1 (first ++ rest)) >>= ended) (base s.base rest can.base small)
    ∙ ap (λ (xs : List ℕ). history_at s.base (here n xs) >>= ended) (drop_at first rest n refl)
    ∙ ap (λ (r : After). r >>= ended) (history_again law s.base s.done s.undone n can)

pub session_again : BaseIsRead → IsShort → LineIsRead → (s : Session) → CanBeSaved s → opened (saved_text s) ≡ Ok s
unfolding opened session_text
session_again base short law s can =
    let bytes : List ℕ = base_text s.base ++ history_text s.done s.undone in
    ap (λ (b : Bool). cond b (session_loaded bytes) (dump_loaded bytes)) (begins s.base (history_text s.done s.undone))
    ∙ loaded_again base short law s can

-- ---- a database alone

begins_otherwise : (db : Lists) → begins_session (text db) ≡ false
unfolding text
begins_otherwise db = refl

pub dump_again : ((db : Lists) → IsDatabase db → loaded (text db) ≡ Ok db) → (db : Lists) → IsDatabase db → opened (text db) ≡ Ok (start db)
unfolding opened dump_loaded
dump_again law db good =
    ap (λ (b : Bool). cond b (session_loaded (text db)) (dump_loaded (text db))) (begins_otherwise db)
    ∙ ap (λ (r : Result Lists DumpFault). r >>= λ (x : Lists). let found : Result Session DumpFault = Ok (start x) in found) (law db good)

-- ---- different sessions

abbrev found : Session → Result Session DumpFault
found s = Ok s

same_session : (s t : Session) → found s ≡ found t → s ≡ t
same_session s t e = cc

pub one_text : ((s : Session) → CanBeSaved s → opened (saved_text s) ≡ Ok s) → (s t : Session) → CanBeSaved s → CanBeSaved t
    → saved_text s ≡ saved_text t → s ≡ t
one_text again s t p q same = same_session s t (sym (again s p) ∙ ap opened same ∙ again t q)
