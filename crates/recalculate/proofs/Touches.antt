-- Which areas the edits touch that were carried out, taken back, or carried out again, and what stays of the others.
use Rattle.std.proofs.Common.{◌≡◌, ℕ, ◌-◌, ◌≤◌, Bool, true, false, not, filter, List, [], ◌∷◌, ◌++◌, take, drop, length, Result, Ok, Err}
use Rattle.std.proofs.Common.{IsOk, refl, sym, ap, ◌∙◌, subst, arith, ltb}
use Rattle.std.specs.Prelude.{◌||◌, IfSome, cond, nat_lt}
use Rattle.std.proofs.lemmas.Bool.{cond-false, le-ltb}
use Rattle.std.proofs.lemmas.List.{length-append, length-drop, length-take}
use Rattle.lsa_codec.specs.declared.address.AreaId.{AreaId}
use Rattle.lsdb.specs.Lists.{Lists}
use Rattle.edit_script.specs.declared.edit.Edit.{Edit}
use Rattle.edit_history.specs.declared.fault.EditFault.{EditFault}
use Rattle.edit_history.specs.declared.fault.EditFault.TheVariants.{HistoryFull}
use Rattle.edit_history.specs.Effect.{◌>>=◌, edit_touches, effect, graph_lsas}
use Rattle.edit_history.specs.Session.{Session, Request, edit, undo, redo, accepted, accepted_or, after_request, edited, edited_by, edits_touch, moved_back, moved_on, most_edits}
use Rattle.edit_history.specs.Session.{redo_touches, state, undo_touches}
use Rattle.edit_history.proofs.HistoryLemmas.{back_and_on, edits_back, on_and_back, seam_drop, seam_take}
use Rattle.edit_history.proofs.HistoryLemmas.{redo_spares, undo_spares}
use Rattle.routing_table.specs.AreasTrees.{AreasTrees, KeptTreesValue, AreAreasOf, AreOfDatabase, IsSpareOf, routers_by, routers_of}
use Rattle.routing_table.specs.KeptTrees.{less_touched}
use Rattle.edit_history.specs.declared.moved.Moved.{Moved}
use Rattle.edit_history.specs.declared.moved.Moved.TheVariants.{On, Back}
use Rattle.recalculate.specs.Calls.{IsTaken, request_touches}
use Rattle.recalculate.specs.Reached.{IsReached}
use Rattle.edit_history.specs.Moving.{before, moved_touches}
use Rattle.recalculate.proofs.Caches.{edited_base}
use Rattle.recalculate.proofs.TreesSpared.{reported_untouched, untouched_stay}

-- ---- the edits that were taken back are the next to be carried out again, and the other way round

pub undone_touch : (k : ℕ) (area : AreaId) (s : Session) → k ≤ length s.done → redo_touches k area (moved_back k s) ≡ undo_touches k area s
undone_touch k area s le =
    ap (edits_touch area (state (moved_back k s)))
    (seam_take k (drop (length s.done - k) s.done) s.undone (omega (arith, length-drop (length s.done - k) s.done, le)))

pub redone_touch : (k : ℕ) (area : AreaId) (s : Session) → k ≤ length s.undone → undo_touches k area (moved_on k s) ≡ redo_touches k area s
redone_touch k area s le =
    ap (λ (t : Session). edits_touch area (state t) (drop (length (s.done ++ take k s.undone) - k) (s.done ++ take k s.undone))) (on_and_back s k le)
    ∙ ap (edits_touch area (state s)) (seam_drop (length (s.done ++ take k s.undone) - k) s.done (take k s.undone)
    (omega (arith, length-append s.done (take k s.undone), length-take k s.undone, le)))

-- an edit that was accepted is the last one that is done
done_after : (s t : Session) (e : Edit) → edited s e ≡ Ok t → t.done ≡ s.done ++ e ∷ []
unfolding edited
done_after s t e h = by (nat_lt (length s.done) most_edits) (effect (state s) e) h
  where
    by : (b : Bool) (r : Result Lists EditFault) → cond b (accepted s e r) (Err HistoryFull) ≡ Ok t → t.done ≡ s.done ++ e ∷ []
    by true (Ok db) k = let is : record { base = s.base; done = s.done ++ e ∷ []; undone = [] } ≡ t = cc in sym (ap (λ (x : Session). x.done) is)
    by true (Err fault) k = absurd cc
    by false r k = absurd cc

state_before : (s t : Session) (e : Edit) → edited s e ≡ Ok t → state (moved_back 1 t) ≡ state s
state_before s t e h = edits_back s t (e ∷ []) (ap (λ (r : Result Session EditFault). r >>= λ x. edited_by x []) h)

or_false : (b : Bool) → (b || false) ≡ b
or_false true = refl
or_false false = refl

pub edited_touch : (area : AreaId) (s t : Session) (e : Edit) → edited s e ≡ Ok t → undo_touches 1 area t ≡ edit_touches area (state s) e
edited_touch area s t e h =
    ap (λ (db : Lists). edits_touch area db (drop (length t.done - 1) t.done)) (state_before s t e h)
    ∙ ap (λ (es : List Edit). edits_touch area (state s) (drop (length es - 1) es)) (done_after s t e h)
    ∙ ap (edits_touch area (state s)) (seam_drop (length (s.done ++ e ∷ []) - 1) s.done (e ∷ []) (omega (arith, length-append s.done (e ∷ []))))
    ∙ or_false (edit_touches area (state s) e)

-- ---- areas that are not touched keep their router-LSAs and network-LSAs

pub undone_spares : (s : Session) (k : ℕ) (area : AreaId) → IsReached s → undo_touches k area s ≡ false
    → graph_lsas area (state (moved_back k s)) ≡ graph_lsas area (state s)
undone_spares s k area reached =
    subst (λ (t : Session). undo_touches k area t ≡ false → graph_lsas area (state (moved_back k t)) ≡ graph_lsas area (state t)) reached.shows
    (undo_spares reached.slots reached.history k area reached.links)

pub redone_spares : (s : Session) (k : ℕ) (area : AreaId) → IsReached s → redo_touches k area s ≡ false
    → graph_lsas area (state (moved_on k s)) ≡ graph_lsas area (state s)
redone_spares s k area reached =
    subst (λ (t : Session). redo_touches k area t ≡ false → graph_lsas area (state (moved_on k t)) ≡ graph_lsas area (state t)) reached.shows
    (redo_spares reached.slots reached.history k area reached.links)

pub edited_spares : (s t : Session) (e : Edit) (area : AreaId) → IsReached t → edited s e ≡ Ok t
    → edit_touches area (state s) e ≡ false → graph_lsas area (state t) ≡ graph_lsas area (state s)
edited_spares s t e area reached h apart =
    sym (undone_spares t 1 area reached (edited_touch area s t e h ∙ apart)) ∙ ap (graph_lsas area) (state_before s t e h)

-- ---- the trees that are kept after a step

pub spared : (moved : Moved) (s : Session) (area : AreaId) → IsReached s → moved_touches moved area s ≡ false
    → graph_lsas area (state s) ≡ graph_lsas area (state (before moved s))
spared (On k) s area reached apart = sym (undone_spares s k area reached apart)
spared (Back k) s area reached apart = sym (redone_spares s k area reached apart)

module _ (moved : Moved) (s : Session) (old new : KeptTreesValue) (is : new.areas ≡ filter (λ a. not (moved_touches moved a.0 s)) old.areas) where
  pub untouched_kept : routers_of new ≡ less_touched (λ area. moved_touches moved area s) (routers_of old)
  untouched_kept = ap (λ (l : AreasTrees). routers_by l) is ∙ reported_untouched (λ area. moved_touches moved area s) old.areas

  pub graphs_stay : IsReached s → (AreOfDatabase (state (before moved s)) old → IfSome new.spare (IsSpareOf (state s)))
      → AreOfDatabase (state (before moved s)) old → AreOfDatabase (state s) new
  graphs_stay reached spare all = record {
    areas = subst (λ (l : AreasTrees). AreAreasOf (state s) l) (sym is)
        (untouched_stay (state (before moved s)) (state s) (λ area. moved_touches moved area s)
        (λ area apart. spared moved s area reached apart) old.areas all.areas);
    spare = spare all;
  }

-- ---- steps, as the requests that make them

edit_taken : (s t : Session) (e : Edit) → edited s e ≡ Ok t → after_request s (edit e) ≡ t
edit_taken s t e is = ap (accepted_or s) is

pub undo_taken : (s : Session) (k : ℕ) → k ≤ length s.done → after_request s (undo k) ≡ moved_back k s
undo_taken s k le = cond-false (ltb (length s.done) k) s (moved_back k s) (le-ltb (length s.done) k le)

pub redo_taken : (s : Session) (k : ℕ) → k ≤ length s.undone → after_request s (redo k) ≡ moved_on k s
redo_taken s k le = cond-false (ltb (length s.undone) k) s (moved_on k s) (le-ltb (length s.undone) k le)

-- a request that is taken led from s to t, and moved over these edits
pub record IsStep (request : Request) (moved : Moved) (s t : Session) : Type 0 where
  pub taken : IsTaken request s
  pub after : after_request s request ≡ t
  pub base : t.base ≡ s.base
  pub back : state (before moved t) ≡ state s
  pub touched : (area : AreaId) → moved_touches moved area t ≡ request_touches request s area

pub edit_step : (s t : Session) (e : Edit) → edited s e ≡ Ok t → IsStep (edit e) (On 1) s t
edit_step s t e is = record {
  taken = subst (λ (r : Result Session EditFault). IsOk r) (sym is) refl;
  after = edit_taken s t e is;
  base = edited_base s t e is;
  back = state_before s t e is;
  touched = λ area. edited_touch area s t e is;
}

pub undo_step : (s t : Session) (k : ℕ) → k ≤ length s.done → t ≡ moved_back k s → IsStep (undo k) (Back k) s t
undo_step s t k le is = record {
  taken = le;
  after = undo_taken s k le ∙ sym is;
  base = ap (λ (u : Session). u.base) is;
  back = ap (λ (u : Session). state (moved_on k u)) is ∙ ap (λ (u : Session). state u) (back_and_on s k le);
  touched = λ area. ap (redo_touches k area) is ∙ undone_touch k area s le;
}

pub redo_step : (s t : Session) (k : ℕ) → k ≤ length s.undone → t ≡ moved_on k s → IsStep (redo k) (On k) s t
redo_step s t k le is = record {
  taken = le;
  after = redo_taken s k le ∙ sym is;
  base = ap (λ (u : Session). u.base) is;
  back = ap (λ (u : Session). state (moved_back k u)) is ∙ ap (λ (u : Session). state u) (on_and_back s k le);
  touched = λ area. ap (undo_touches k area) is ∙ redone_touch k area s le;
}
