use Rattle.std.proofs.Common.{◌≡◌, ℕ, List, ◌++◌, take, drop, sym, ap, ◌∙◌, subst}
use Rattle.std.specs.Prelude.{reverse}
use Rattle.std.proofs.lemmas.List.{reverse-reverse, take-append-drop}
use Rattle.edit_history.specs.Exchange.{RecordData}
use Rattle.edit_history.specs.Journal.{HistoryData, HistoryRoom}
use Rattle.edit_history.specs.Session.{edits_of}
use Rattle.edit_history.proofs.Cursor.{seen}
use Rattle.edit_history.proofs.HistoryLemmas.{edits_in_order}
use Rattle.edit_history.proofs.history.History.records.Goals as goal

-- the records are those before the cursor, in order, and those after it
in_order : (items : List RecordData) (cursor : ℕ) (h : HistoryData) → seen items cursor ≡ h → items ≡ reverse h.past ++ h.future
in_order items cursor h view =
    subst (λ (k : HistoryData). items ≡ reverse k.past ++ k.future) view
    (sym (ap (λ (rs : List RecordData). rs ++ drop cursor items) (reverse-reverse (take cursor items)) ∙ take-append-drop cursor items))

pub returns-clause-edits : goal.returns-clause-edits
returns-clause-edits g c = λ d.
    ap edits_of
    (c.deref.ensures.value
    ∙ in_order c.self.inside.records.items c.self.inside.cursor c.args.self.now.lists (ap (λ (r : HistoryRoom). r.lists) c.self.view_is))
    ∙ edits_in_order d c.args.self.now.lists
