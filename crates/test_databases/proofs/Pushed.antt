-- A history with the record of one more edit.
use Rattle.std.proofs.Common.{◌≡◌, List, [], ◌∷◌, ◌++◌, refl, sym, ap, ◌∙◌, subst}
use Rattle.std.specs.Prelude.{reverse}
use Rattle.lsdb.specs.Lists.{IsDatabase}
use Rattle.lsdb.specs.Slots.{Slots, lists_of}
use Rattle.edit_script.specs.declared.edit.Edit.{Edit}
use Rattle.edit_history.specs.Exchange.{RecordData}
use Rattle.edit_history.specs.Applied.{Applied}
use Rattle.edit_history.specs.Journal.{HistoryData, Links}
use Rattle.edit_history.specs.Session.{edits_of, session_of}
use Rattle.edit_history.proofs.HistoryLemmas.{pushed, pushed_linked, recorded, reverse_cons}
use Rattle.test_databases.specs.Edited.{with_edit}
use Rattle.test_databases.proofs.Moves.{same_session}

pub pushed_links : (d e : Slots) (h k : HistoryData) (edit : Edit) (r : RecordData) → Links d h → IsDatabase (lists_of e) → Applied d e edit r
    → k ≡ pushed r h → Links e k
pushed_links d e h k edit r links sound applied is =
    subst (λ (x : HistoryData). Links e x) (sym is) (pushed_linked d e h edit r links sound applied)

pub pushed_session : (d e : Slots) (h k : HistoryData) (edit : Edit) (r : RecordData) → Links d h → IsDatabase (lists_of e) → Applied d e edit r
    → k ≡ pushed r h → session_of e k ≡ with_edit (session_of d h) edit
pushed_session d e h k edit r links sound applied is =
    ap (session_of e) is
    ∙ same_session (session_of e (pushed r h)) (with_edit (session_of d h) edit)
    (recorded d e h edit r links sound applied).base
    (reverse_cons r.edit (edits_of h.past) ∙ ap (λ (x : Edit). reverse (edits_of h.past) ++ x ∷ []) applied.same)
    refl
