-- The edits of a history are accepted in turn: the done ones from the base on, the undone ones after them.
use Rattle.std.proofs.Common.{◌≡◌, List, [], ◌∷◌, ◌++◌, Result, Ok, Err, refl, sym, ap, ◌∙◌, subst}
use Rattle.std.specs.Prelude.{reverse, IsOk}
use Rattle.lsdb.specs.Lists.{Lists}
use Rattle.lsdb.specs.Slots.{Slots, lists_of}
use Rattle.edit_script.specs.declared.edit.Edit.{Edit}
use Rattle.edit_history.specs.declared.fault.EditFault.{EditFault}
use Rattle.edit_history.specs.Effect.{effect, ◌>>=◌}
use Rattle.edit_history.specs.Exchange.{RecordData, done_slots, undone_slots}
use Rattle.edit_history.specs.Journal.{HistoryData, LinksBack, LinksOn, Links, origin}
use Rattle.edit_history.specs.Session.{edits_of, session_of, effects}
use Rattle.edit_history.proofs.Linked.{reverse_cons}

effects_snoc : (db : Lists) (es : List Edit) (e : Edit) → effects db (es ++ e ∷ []) ≡ (effects db es >>= λ after. effect after e)
effects_snoc db [] e = by_answer (effect db e) where
  by_answer : (r : Result Lists EditFault) → (r >>= λ after. effects after []) ≡ r
  by_answer (Ok after) = refl
  by_answer (Err fault) = refl
effects_snoc db (x ∷ es) e = by_answer (effect db x) (λ after. effects_snoc after es e) where
  by_answer : (r : Result Lists EditFault) → ((after : Lists) → effects after (es ++ e ∷ []) ≡ (effects after es >>= λ next. effect next e))
      → (r >>= λ after. effects after (es ++ e ∷ [])) ≡ ((r >>= λ after. effects after es) >>= λ next. effect next e)
  by_answer (Ok after) rest = rest after
  by_answer (Err fault) rest = refl

accepted_back : (d : Slots) (rs : List RecordData) → LinksBack d rs → effects (lists_of (origin d rs)) (reverse (edits_of rs)) ≡ Ok (lists_of d)
accepted_back d [] links = refl
accepted_back d (r ∷ rs) links =
    let u : Slots = undone_slots d r.swaps in
    let base : Lists = lists_of (origin u rs) in
    ap (effects base) (reverse_cons r.edit (edits_of rs))
    ∙ effects_snoc base (reverse (edits_of rs)) r.edit
    ∙ ap (λ (a : Result Lists EditFault). a >>= λ after. effect after r.edit) (accepted_back u rs links.1)
    ∙ links.0.leads

accepted_on : (d : Slots) (rs : List RecordData) → LinksOn d rs → IsOk (effects (lists_of d) (edits_of rs))
accepted_on d [] links = refl
accepted_on d (r ∷ rs) links =
    subst (λ (a : Result Lists EditFault). IsOk (a >>= λ after. effects after (edits_of rs))) (sym links.0.leads)
    (accepted_on (done_slots d r.swaps) rs links.1)

pub done_accepted : (d : Slots) (h : HistoryData) → Links d h → effects (session_of d h).base (session_of d h).done ≡ Ok (lists_of d)
done_accepted d h links = accepted_back d h.past links.back

pub undone_accepted : (d : Slots) (h : HistoryData) → Links d h → IsOk (effects (lists_of d) (session_of d h).undone)
undone_accepted d h links = accepted_on d h.future links.on
