-- Which areas the edits of a history touch, by its records; and what an undo or redo leaves of the other areas.
use Rattle.std.proofs.Common.{◌≡◌, ℕ, ◌-◌, Bool, true, false, ◌||◌, List, [], ◌∷◌, ◌++◌, length, take, drop, Result, refl, sym, ap, ◌∙◌, subst}
use Rattle.std.proofs.Common.{arith}
use Rattle.std.specs.Prelude.{reverse}
use Rattle.std.specs.List.{list_any}
use Rattle.std.proofs.lemmas.Bool.{or_parts}
use Rattle.std.proofs.Math.Bool.{or-false}
use Rattle.std.proofs.lemmas.List.{length-reverse, length-map, length-drop, map-append, reverse-append, take-append-drop, take-map}
use Rattle.lsa_codec.specs.declared.address.AreaId.{AreaId}
use Rattle.lsdb.specs.Lists.{Lists, IsDatabase}
use Rattle.lsdb.specs.Slots.{Slots, lists_of}
use Rattle.edit_script.specs.declared.edit.Edit.{Edit}
use Rattle.edit_history.specs.declared.fault.EditFault.{EditFault}
use Rattle.edit_history.specs.Effect.{effect, touched_by, edit_touches, graph_lsas}
use Rattle.edit_history.specs.Exchange.{RecordData, touches, done_slots, undone_slots, done_swaps}
use Rattle.edit_history.specs.Applied.{Applied, TakesBack, CarriesOut}
use Rattle.edit_history.specs.Journal.{HistoryData, LinksBack, LinksOn, Links, origin}
use Rattle.edit_history.specs.Session.{Session, session_of, edits_of, state, after_edits, unless_refused, moved_back, moved_on, edits_touch}
use Rattle.edit_history.specs.Session.{undo_touches, redo_touches}
use Rattle.edit_history.specs.declared.moved.Moved.{Moved}
use Rattle.edit_history.specs.declared.moved.Moved.TheVariants.{Back, On}
use Rattle.edit_history.specs.Moving.{moved_records, moved_touches}
use Rattle.edit_history.proofs.Exchanged.{undone_sound, done_sound}
use Rattle.edit_history.proofs.Growing.{state_back, state_is}
use Rattle.edit_history.proofs.Linked.{reverse_cons}
use Rattle.edit_history.proofs.Returning.{seam_take, seam_drop}
use Rattle.edit_history.proofs.Sparing.{untouched_stay}
use Rattle.edit_history.proofs.RecordChanges.{touched_reported, touched_done}

-- ---- one record

pub done_touches : (area : AreaId) (d : Slots) (r : RecordData) → TakesBack d r.edit r.swaps
    → edit_touches area (lists_of (undone_slots d r.swaps)) r.edit ≡ touches area r
done_touches area d r back = ap (touched_by area) back.reports ∙ sym (touched_reported area d r.swaps)

pub next_touches : (area : AreaId) (d : Slots) (r : RecordData) → CarriesOut d r.edit r.swaps
    → edit_touches area (lists_of d) r.edit ≡ touches area r
next_touches area d r on =
    ap (touched_by area) on.reports ∙ sym (touched_reported area (done_slots d r.swaps) (done_swaps d r.swaps)) ∙ touched_done area d r.swaps

pub applied_touches : (area : AreaId) (d e : Slots) (edit : Edit) (r : RecordData) → Applied d e edit r
    → touches area r ≡ edit_touches area (lists_of d) edit
applied_touches area d e edit r applied = touched_reported area e r.swaps ∙ sym (ap (touched_by area) applied.reports)

-- ---- the records that are taken back

touch_snoc : (area : AreaId) (db : Lists) (es : List Edit) (e : Edit)
    → edits_touch area db (es ++ e ∷ []) ≡ (edits_touch area db es || edit_touches area (after_edits db es) e)
touch_snoc area db [] e = or-false (edit_touches area db e)
touch_snoc area db (x ∷ es) e =
    ap (λ (b : Bool). edit_touches area db x || b) (touch_snoc area (unless_refused db (effect db x)) es e)
    ∙ or_assoc (edit_touches area db x) (edits_touch area (unless_refused db (effect db x)) es) (edit_touches area (after_edits db (x ∷ es)) e) where
      or_assoc : (a b c : Bool) → (a || (b || c)) ≡ ((a || b) || c)
      or_assoc true b c = refl
      or_assoc false b c = refl

or_turned : (a b : Bool) → (a || b) ≡ (b || a)
or_turned true true = refl
or_turned true false = refl
or_turned false true = refl
or_turned false false = refl

back_touches : (area : AreaId) (d : Slots) (rs : List RecordData) → LinksBack d rs
    → edits_touch area (lists_of (origin d rs)) (reverse (edits_of rs)) ≡ list_any (touches area) rs
back_touches area d [] links = refl
back_touches area d (r ∷ rs) links =
    let u : Slots = undone_slots d r.swaps in
    let base : Lists = lists_of (origin u rs) in
    ap (edits_touch area base) (reverse_cons r.edit (edits_of rs))
    ∙ touch_snoc area base (reverse (edits_of rs)) r.edit
    ∙ ap (λ (b : Bool). b || edit_touches area (after_edits base (reverse (edits_of rs))) r.edit) (back_touches area u rs links.1)
    ∙ ap (λ (db : Lists). list_any (touches area) rs || edit_touches area db r.edit) (state_back u rs links.1)
    ∙ ap (λ (b : Bool). list_any (touches area) rs || b) (done_touches area d r links.0)
    ∙ or_turned (list_any (touches area) rs) (touches area r)

back_graph : (area : AreaId) (d : Slots) (rs : List RecordData) → IsDatabase (lists_of d) → LinksBack d rs → list_any (touches area) rs ≡ false
    → graph_lsas area (lists_of (origin d rs)) ≡ graph_lsas area (lists_of d)
back_graph area d [] sound links untouched = refl
back_graph area d (r ∷ rs) sound links untouched =
    let parts = or_parts _ _ untouched in
    let u : Slots = undone_slots d r.swaps in
    let before : IsDatabase (lists_of u) = undone_sound d r.swaps sound links.0.can in
    back_graph area u rs before links.1 parts.1
    ∙ sym (untouched_stay (lists_of u) (lists_of d) r.edit area before links.0.leads (done_touches area d r links.0 ∙ parts.0))

-- ---- the records that are carried out again

on_touches : (area : AreaId) (d : Slots) (rs : List RecordData) → LinksOn d rs
    → edits_touch area (lists_of d) (edits_of rs) ≡ list_any (touches area) rs
on_touches area d [] links = refl
on_touches area d (r ∷ rs) links =
    let e : Slots = done_slots d r.swaps in
    ap (λ (b : Bool). b || edits_touch area (unless_refused (lists_of d) (effect (lists_of d) r.edit)) (edits_of rs)) (next_touches area d r links.0)
    ∙ ap (λ (a : Result Lists EditFault). touches area r || edits_touch area (unless_refused (lists_of d) a) (edits_of rs)) links.0.leads
    ∙ ap (λ (b : Bool). touches area r || b) (on_touches area e rs links.1)

on_graph : (area : AreaId) (d : Slots) (rs : List RecordData) → IsDatabase (lists_of d) → LinksOn d rs → list_any (touches area) rs ≡ false
    → graph_lsas area (after_edits (lists_of d) (edits_of rs)) ≡ graph_lsas area (lists_of d)
on_graph area d [] sound links untouched = refl
on_graph area d (r ∷ rs) sound links untouched =
    let parts = or_parts _ _ untouched in
    let e : Slots = done_slots d r.swaps in
    ap (λ (a : Result Lists EditFault). graph_lsas area (after_edits (unless_refused (lists_of d) a) (edits_of rs))) links.0.leads
    ∙ on_graph area e rs (done_sound d r.swaps sound links.0.can) links.1 parts.1
    ∙ untouched_stay (lists_of d) (lists_of e) r.edit area sound links.0.leads (next_touches area d r links.0 ∙ parts.0)

-- ---- some of the records

back_front : (d : Slots) (rs ss : List RecordData) → LinksBack d (rs ++ ss) → LinksBack d rs × LinksBack (origin d rs) ss
back_front d [] ss links = (tt, links)
back_front d (r ∷ rs) ss links = let rest = back_front (undone_slots d r.swaps) rs ss links.1 in ((links.0, rest.0), rest.1)

on_front : (d : Slots) (rs ss : List RecordData) → LinksOn d (rs ++ ss) → LinksOn d rs
on_front d [] ss links = tt
on_front d (r ∷ rs) ss links = (links.0, on_front (done_slots d r.swaps) rs ss links.1)

origin_append : (d : Slots) (rs ss : List RecordData) → origin d (rs ++ ss) ≡ origin (origin d rs) ss
origin_append d [] ss = refl
origin_append d (r ∷ rs) ss = origin_append (undone_slots d r.swaps) rs ss

-- the first k records, and those after them
record LinksBoth (d : Slots) (k : ℕ) (rs : List RecordData) : Type 0 where
  pub first : LinksBack d (take k rs)
  pub rest : LinksBack (origin d (take k rs)) (drop k rs)
  pub whole : origin d rs ≡ origin (origin d (take k rs)) (drop k rs)

both : (d : Slots) (k : ℕ) (rs : List RecordData) → LinksBack d rs → LinksBoth d k rs
both d k rs links =
    let split : rs ≡ take k rs ++ drop k rs = sym (take-append-drop k rs) in
    let parts = back_front d (take k rs) (drop k rs) (subst (LinksBack d) split links) in
    record { first = parts.0; rest = parts.1; whole = ap (origin d) split ∙ origin_append d (take k rs) (drop k rs) }

abbrev done_by : List RecordData → List Edit
done_by rs = reverse (edits_of rs)

-- the edits of the first k records are the last of the done ones
record LastDone (k : ℕ) (rs : List RecordData) : Type 0 where
  pub before : take (length (done_by rs) - k) (done_by rs) ≡ done_by (drop k rs)
  pub last : drop (length (done_by rs) - k) (done_by rs) ≡ done_by (take k rs)

last_done : (k : ℕ) (rs : List RecordData) → LastDone k rs
last_done k rs =
    let n = length (done_by rs) - k in
    let split : done_by rs ≡ done_by (drop k rs) ++ done_by (take k rs) =
    ap done_by (sym (take-append-drop k rs)) ∙ ap (λ (es : List Edit). reverse es) (map-append (λ (r : RecordData). r.edit) (take k rs) (drop k rs))
    ∙ reverse-append (edits_of (take k rs)) (edits_of (drop k rs)) in
    let count : length (done_by (drop k rs)) ≡ n =
    omega (
      arith,
      length-reverse (edits_of (drop k rs)),
      length-map (drop k rs) (λ (r : RecordData). r.edit),
      length-drop k rs,
      length-reverse
          (edits_of rs),
      length-map rs (λ (r : RecordData). r.edit),
    ) in
    record {
      before = ap (take n) split ∙ seam_take n (done_by (drop k rs)) (done_by (take k rs)) count;
      last = ap (drop n) split ∙ seam_drop n (done_by (drop k rs)) (done_by (take k rs)) count;
    }

-- ---- the session

pub back_state : (d : Slots) (h : HistoryData) (k : ℕ) → Links d h → state (moved_back k (session_of d h)) ≡ lists_of (origin d (take k h.past))
back_state d h k links =
    let b = both d k h.past links.back in
    ap (after_edits (lists_of (origin d h.past))) (last_done k h.past).before
    ∙ ap (λ (e : Slots). after_edits (lists_of e) (done_by (drop k h.past))) b.whole
    ∙ state_back (origin d (take k h.past)) (drop k h.past) b.rest

pub undo_is : (d : Slots) (h : HistoryData) (k : ℕ) (area : AreaId) → Links d h
    → list_any (touches area) (take k h.past) ≡ undo_touches k area (session_of d h)
undo_is d h k area links =
    let n = length (done_by h.past) - k in
    sym (ap (λ (db : Lists). edits_touch area db (drop n (done_by h.past))) (back_state d h k links)
    ∙ ap (edits_touch area (lists_of (origin d (take k h.past)))) (last_done k h.past).last
    ∙ back_touches area d (take k h.past) (both d k h.past links.back).first)

pub undo_spares : (d : Slots) (h : HistoryData) (k : ℕ) (area : AreaId) → Links d h → undo_touches k area (session_of d h) ≡ false
    → graph_lsas area (state (moved_back k (session_of d h))) ≡ graph_lsas area (state (session_of d h))
undo_spares d h k area links untouched =
    ap (graph_lsas area) (back_state d h k links)
    ∙ back_graph area d (take k h.past) links.sound (both d k h.past links.back).first (undo_is d h k area links ∙ untouched)
    ∙ ap (graph_lsas area) (sym (state_is d h links))

pub first_on : (d : Slots) (k : ℕ) (rs : List RecordData) → LinksOn d rs → LinksOn d (take k rs)
first_on d k rs links = on_front d (take k rs) (drop k rs) (subst (LinksOn d) (sym (take-append-drop k rs)) links)

pub redo_is : (d : Slots) (h : HistoryData) (k : ℕ) (area : AreaId) → Links d h
    → list_any (touches area) (take k h.future) ≡ redo_touches k area (session_of d h)
redo_is d h k area links =
    sym (ap (λ (db : Lists). edits_touch area db (take k (edits_of h.future))) (state_is d h links)
    ∙ ap (edits_touch area (lists_of d)) (take-map (λ (r : RecordData). r.edit) k h.future)
    ∙ on_touches area d (take k h.future) (first_on d k h.future links.on))

pub after_append : (db : Lists) (xs ys : List Edit) → after_edits db (xs ++ ys) ≡ after_edits (after_edits db xs) ys
after_append db [] ys = refl
after_append db (x ∷ xs) ys = after_append (unless_refused db (effect db x)) xs ys

pub redo_spares : (d : Slots) (h : HistoryData) (k : ℕ) (area : AreaId) → Links d h → redo_touches k area (session_of d h) ≡ false
    → graph_lsas area (state (moved_on k (session_of d h))) ≡ graph_lsas area (state (session_of d h))
redo_spares d h k area links untouched =
    let s : Session = session_of d h in
    let is : state s ≡ lists_of d = state_is d h links in
    ap (graph_lsas area)
    (after_append s.base s.done (take k s.undone)
    ∙ ap (λ (db : Lists). after_edits db (take k s.undone)) is
    ∙ ap (after_edits (lists_of d)) (take-map (λ (r : RecordData). r.edit) k h.future))
    ∙ on_graph area d (take k h.future) links.sound (first_on d k h.future links.on) (redo_is d h k area links ∙ untouched)
    ∙ ap (graph_lsas area) (sym is)

-- ---- the edits that a history last moved over

pub moved_is : (d : Slots) (h : HistoryData) (moved : Moved) (area : AreaId) → Links d h
    → list_any (touches area) (moved_records moved h) ≡ moved_touches moved area (session_of d h)
moved_is d h (On k) area links = undo_is d h k area links
moved_is d h (Back k) area links = redo_is d h k area links
