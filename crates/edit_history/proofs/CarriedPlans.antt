-- A plan that was carried out.
use Rattle.std.proofs.Common.{◌≡◌, ℕ, List, [], ◌∷◌, refl, sym, ap, ◌∙◌, subst}
use Rattle.lsdb.specs.Slots.{Slots, open_at, lists_of}
use Rattle.lsdb.specs.Lists.{Lists, IsDatabase}
use Rattle.lsdb.proofs.SlotLemmas.{lists_of-open_at}
use Rattle.edit_script.specs.declared.edit.Edit.{Edit}
use Rattle.edit_history.specs.Exchange.{SwapData, RecordData, done_slots, done_swaps}
use Rattle.edit_history.specs.Effect.{effect, changes}
use Rattle.edit_history.specs.Applied.{Planned, Applied}
use Rattle.edit_history.specs.Grown.{opened, Grown}
use Rattle.edit_history.proofs.Exchanged.{undo_done}

pub grown_same : (d e : Slots) → e ≡ d → Grown d e
grown_same d e same = ([], same)

-- opened slots do not change the lists
pub opened_lists : (d : Slots) (sections : List ℕ) → lists_of (opened d sections) ≡ lists_of d
opened_lists d [] = refl
opened_lists d (s ∷ ss) = opened_lists (open_at d s) ss ∙ lists_of-open_at d s

pub grown_lists : (d e : Slots) → Grown d e → lists_of e ≡ lists_of d
grown_lists d e grown = ap lists_of grown.1 ∙ opened_lists d grown.0

pub applied : (d e f : Slots) (edit : Edit) (swaps : List SwapData) (r : RecordData) → IsDatabase (lists_of e) → Planned d e edit swaps
    → f ≡ done_slots e swaps → r ≡ record { edit = edit; swaps = done_swaps e swaps } → Applied d f edit r
applied d e f edit swaps r sound plan is made =
    subst (λ (x : RecordData). Applied d f edit x) (sym made)
    (subst (λ (x : Slots). Applied d x edit (record { edit = edit; swaps = done_swaps e swaps })) (sym is) here) where
      here : Applied d (done_slots e swaps) edit (record { edit = edit; swaps = done_swaps e swaps })
      here =
          let again = undo_done e swaps sound plan.carries.can in
          let same = grown_lists d e plan.opens in
          record {
            same = refl;
            leads = ap (λ (db : Lists). effect db edit) (sym same) ∙ plan.carries.leads;
            reports = ap (λ (db : Lists). changes db edit) (sym same) ∙ plan.carries.reports;
            can = again.can;
            before = subst (Grown d) (sym again.slots) plan.opens;
          }
