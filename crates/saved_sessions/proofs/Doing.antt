-- Sessions whose edits are all done, one after another.
use Rattle.std.proofs.Common.{◌≡◌, ℕ, ◌+◌, ◌-◌, ◌<◌, ltb, List, [], ◌∷◌, ◌++◌, length, drop, Result, Ok, Err, refl, sym, ap, ◌∙◌, subst}
use Rattle.std.proofs.Common.{arith, inl, inr}
use Rattle.std.specs.Prelude.{IsOk}
use Rattle.std.proofs.lemmas.Bool.{cases_Bool, cond-true, cond-false, lt-ltb}
use Rattle.std.proofs.lemmas.List.{length-append, take_at, drop_at, append-nil}
use Rattle.lsdb.specs.Lists.{Lists}
use Rattle.edit_script.specs.declared.edit.Edit.{Edit}
use Rattle.edit_history.specs.declared.fault.EditFault.{EditFault}
use Rattle.edit_history.specs.declared.fault.EditFault.TheVariants.{HistoryFull}
use Rattle.edit_history.specs.Effect.{◌>>=◌, effect}
use Rattle.edit_history.specs.Session.{Session, state, after_edits, unless_refused, effects, edited, accepted, moved_back, most_edits}

-- the session with these edits done, and none undone
abbrev pub doing : Lists → List Edit → Session
doing base done = record { base = base; done = done; undone = [] }

abbrev pub session_of : Lists → List Edit → List Edit → Session
session_of base done undone = record { base = base; done = done; undone = undone }

abbrev taken : Session → Result Session EditFault
taken s = Ok s

abbrev full : Result Session EditFault
full = Err HistoryFull

-- ---- one edit more

accepted_is : (s : Session) (e : Edit) (r : Result Lists EditFault) (t : Session) → accepted s e r ≡ Ok t → t ≡ doing s.base (s.done ++ e ∷ [])
accepted_is s e (Ok db) t h = let same : doing s.base (s.done ++ e ∷ []) ≡ t = cc in sym same
accepted_is s e (Err f) t h = absurd cc

-- an edit that is not refused is done after the others, and none is undone
pub one_done : (s t : Session) (e : Edit) → edited s e ≡ Ok t → t ≡ doing s.base (s.done ++ e ∷ [])
unfolding edited
one_done s t e h =
    elim (cases_Bool (ltb (length s.done) most_edits)) [
      | inl holds ↦ accepted_is s e (effect (state s) e) t (sym (cond-true _ (accepted s e (effect (state s) e)) full holds) ∙ h)
      | inr fails ↦ absurd (let refused : full ≡ taken t = sym (cond-false _ (accepted s e (effect (state s) e)) full fails) ∙ h in cc)
    ]

pub edited_is : (base : Lists) (done : List Edit) (e : Edit) (t : Session) → edited (doing base done) e ≡ Ok t → t ≡ doing base (done ++ e ∷ [])
edited_is base done e t h = one_done (doing base done) t e h

-- the session has one done edit more
pub one_more : (s t : Session) (e : Edit) → edited s e ≡ Ok t → length t.done ≡ length s.done + 1
one_more s t e h = ap (λ (x : Session). length x.done) (one_done s t e h) ∙ length-append s.done (e ∷ [])

-- an edit that has an effect is done, where there is room
pub edited_again : (base : Lists) (done : List Edit) (e : Edit) (after : Lists) → length done < most_edits → effect (after_edits base done) e ≡ Ok after
    → edited (doing base done) e ≡ Ok (doing base (done ++ e ∷ []))
unfolding edited
edited_again base done e after room leads =
    let s : Session = doing base done in
    cond-true (ltb (length done) most_edits) (accepted s e (effect (state s) e)) full (lt-ltb _ _ room)
    ∙ ap (accepted s e) leads

-- ---- where edits lead

pub after_snoc : (db : Lists) (es : List Edit) (e : Edit) → after_edits db (es ++ e ∷ []) ≡ unless_refused (after_edits db es) (effect (after_edits db es) e)
after_snoc db [] e = refl
after_snoc db (x ∷ es) e = after_snoc (unless_refused db (effect db x)) es e

-- an edit that is not refused has an effect, and those after it are carried out on that
pub record Leads (db : Lists) (e : Edit) (es : List Edit) : Type 0 where
  pub after : Lists
  pub is : effect db e ≡ Ok after
  pub rest : IsOk (effects after es)

leads_by : (db : Lists) (e : Edit) (es : List Edit) (r : Result Lists EditFault) → effect db e ≡ r → IsOk (r >>= λ after. effects after es) → Leads db e es
leads_by db e es (Ok after) is ok = record { after = after; is = is; rest = ok }
leads_by db e es (Err f) is ok = absurd cc

pub leads : (db : Lists) (e : Edit) (es : List Edit) → IsOk (effects db (e ∷ es)) → Leads db e es
leads db e es ok = leads_by db e es (effect db e) refl ok

leads_on : (r : Result Lists EditFault) (f g : Lists → Result Lists EditFault) (mid : Lists) → (r >>= f) ≡ Ok mid
    → ((after : Lists) → f after ≡ Ok mid → IsOk (g after)) → IsOk (r >>= g)
leads_on (Ok after) f g mid leads ok = ok after leads
leads_on (Err fault) f g mid leads ok = absurd cc

-- edits after others are carried out on what these lead to
pub none_refused : (db : Lists) (es fs : List Edit) (mid : Lists) → effects db es ≡ Ok mid → IsOk (effects mid fs) → IsOk (effects db (es ++ fs))
none_refused db [] fs mid leads ok = subst (λ (d : Lists). IsOk (effects d fs)) (let same : db ≡ mid = cc in sym same) ok
none_refused db (e ∷ es) fs mid leads ok = leads_on (effect db e) (λ after. effects after es) (λ after. effects after (es ++ fs)) mid leads
    (λ after is. none_refused after es fs mid is ok)

-- ---- the last of them are taken back

pub back_again : (base : Lists) (d u : List Edit) → moved_back (length u) (doing base (d ++ u)) ≡ session_of base d u
back_again base d u =
    let n : ℕ = length (d ++ u) - length u in
    let size : length d ≡ n = omega (arith, length-append d u) in
    ap (λ (xs : List Edit). session_of base xs (drop n (d ++ u) ++ [])) (take_at d u n size)
    ∙ ap (λ (xs : List Edit). session_of base d xs) (append-nil (drop n (d ++ u)) ∙ drop_at d u n size)
