-- What calls leave of an area that none of them touches.
use Rattle.std.proofs.Common.{◌≡◌, ℕ, Bool, true, false, not, List, [], ◌∷◌, Option, Some, None, Result, Ok, Err, IsOk, refl, sym, ap, ◌∙◌, subst}
use Rattle.std.specs.Cmp.{Equal-is}
use Rattle.std.specs.List.{list_any}
use Rattle.std.specs.Option.{option_map_or}
use Rattle.std.specs.Ordering.{eq_by_cmp}
use Rattle.std.proofs.lemmas.Bool.{or_parts}
use Rattle.std.proofs.lemmas.Map.Entries.{lookup-filter-keys}
use Rattle.lsa_codec.specs.declared.address.AreaId.{AreaId}
use Rattle.lsa_codec.specs.declared.address.RouterId.{RouterId}
use Rattle.lsa_codec.specs.Order.{area_cmp, router_cmp}
use Rattle.lsa_codec.proofs.OrderLemmas.{area_exact}
use Rattle.edit_script.specs.declared.edit.Edit.{Edit}
use Rattle.edit_history.specs.declared.fault.EditFault.{EditFault}
use Rattle.edit_history.specs.Effect.{edit_touches, graph_lsas}
use Rattle.edit_history.specs.Session.{Session, Request, edit, undo, redo, accepted_or, after_request, edited, state}
use Rattle.lsdb.specs.Lists.{Lists}
use Rattle.recalculate.specs.Calls.{AreMade, Call, CarriedOut, CarriesOut, IsTaken, Leads, after_calls, call_touches, calls_touch, request_touches}
use Rattle.routing_table.specs.AreasTrees.{routers_of}
use Rattle.routing_table.specs.KeptTrees.{KeptRouters, is_kept, less_touched}
use Rattle.routing_table.specs.Tables.{TableValue}
use Rattle.edit_history.specs.declared.moved.Moved.{Moved}
use Rattle.recalculate.specs.Planning.{AreCachesOf, CacheValue, IsCacheOf, PlannerValue, router_of}
use Rattle.edit_history.specs.Moving.{before, moved_touches}
use Rattle.recalculate.specs.Reached.{IsReached}
use Rattle.recalculate.proofs.Touches.{IsStep, edited_spares, redo_taken, redone_spares, undo_taken, undone_spares}

-- what a planner shows that keeps this
abbrev pub shown : Session → ℕ → (present baseline : CacheValue) → Option RouterId → PlannerValue
shown s runs present baseline asked = record {
  session = s;
  runs = runs;
  kept = routers_of present.trees;
  first_kept = routers_of baseline.trees;
  tables = record { last = router_of present.table; first = router_of baseline.table; asked = asked };
}

-- a step that a request made, and what is kept of the session's database before and after
module _ (request : Request) (moved : Moved) (s t : Session) (step : IsStep request moved s t) (old new baseline : CacheValue) where
  pub caches_follow : (IsCacheOf (state (before moved t)) old → IsCacheOf (state t) new) → AreCachesOf s old baseline → AreCachesOf t new baseline
  caches_follow follows all = record {
    present = follows (subst (λ (db : Lists). IsCacheOf db old) (sym step.back) all.present);
    baseline = subst (λ (db : Lists). IsCacheOf db baseline) (sym step.base) all.baseline;
  }

  -- what the planner showed before
  module _ (runs : ℕ) (asked : Option RouterId) (p : PlannerValue) (shows : shown s runs old baseline asked ≡ p) where
    carried_out : routers_of new.trees ≡ less_touched (λ area. moved_touches moved area t) (routers_of old.trees) → IsReached t
        → new.table ≡ None → CarriedOut request p (shown t runs new baseline asked)
    carried_out kept reached none = subst (λ (q : PlannerValue). CarriedOut request q (shown t runs new baseline asked)) shows (record {
      taken = step.taken;
      session = sym step.after;
      reached = reached;
      runs = refl;
      kept = kept ∙ ap (λ (f : AreaId → Bool). less_touched f (routers_of old.trees)) (λ i area. step.touched area i);
      others = ap (λ (o : Option TableValue). shown t runs (record { trees = new.trees; externals = new.externals; table = o }) baseline asked) none;
    })

    pub carries_out : {T F : Type 0} (v : T) → routers_of new.trees ≡ less_touched (λ area. moved_touches moved area t) (routers_of old.trees)
        → IsReached t → new.table ≡ None → CarriesOut {T = T} {F = F} request (Ok v) p (shown t runs new baseline asked)
    carries_out v kept reached none =
        record { ok = carried_out kept reached none; err = tt; runs = ap (λ (q : PlannerValue). q.runs) shows }

-- ---- the graph of an area stays

module _ (area : AreaId) where
  edit_spares : (s : Session) (e : Edit) → IsOk (edited s e) → IsReached (after_request s (edit e)) → edit_touches area (state s) e ≡ false
      → graph_lsas area (state (after_request s (edit e))) ≡ graph_lsas area (state s)
  edit_spares s e taken reached apart = by (edited s e) refl taken reached
    where
      by : (r : Result Session EditFault) → edited s e ≡ r → IsOk r → IsReached (accepted_or s r)
          → graph_lsas area (state (accepted_or s r)) ≡ graph_lsas area (state s)
      by (Ok t) is ok there = edited_spares s t e area there is apart
      by (Err fault) is ok there = refl

  request_spares : (r : Request) (s : Session) → IsTaken r s → IsReached s → IsReached (after_request s r) → request_touches r s area ≡ false
      → graph_lsas area (state (after_request s r)) ≡ graph_lsas area (state s)
  request_spares (edit e) s taken before after apart = edit_spares s e taken after apart
  request_spares (undo k) s taken before after apart =
      ap (λ (t : Session). graph_lsas area (state t)) (undo_taken s k taken) ∙ undone_spares s k area before apart
  request_spares (redo k) s taken before after apart =
      ap (λ (t : Session). graph_lsas area (state t)) (redo_taken s k taken) ∙ redone_spares s k area before apart

  -- ---- its trees stay

  less_kept : (is_touched : AreaId → Bool) (kept : KeptRouters) (router : RouterId) → is_touched area ≡ false
      → is_kept (less_touched is_touched kept) area router ≡ is_kept kept area router
  less_kept is_touched kept router apart =
      ap (λ (o : Option (List RouterId)). option_map_or (list_any (eq_by_cmp router_cmp router)) o false)
      (lookup-filter-keys (eq_by_cmp area_cmp area) (λ a. not (is_touched a)) true
      (λ a same. ap (λ x. not (is_touched x)) (sym (area_exact area a ((Equal-is (area_cmp area a)).0 same))) ∙ ap not apart) kept)

  -- what depends on the area alone stays
  pub record IsSpared (old new : PlannerValue) : Type 0 where
    pub graph : graph_lsas area (state new.session) ≡ graph_lsas area (state old.session)
    pub trees : (router : RouterId) → is_kept old.kept area router ≡ true → is_kept new.kept area router ≡ true

  call_spares : (o : Option Request) (old new : PlannerValue) → IsReached old.session → Leads o old new
      → call_touches o old.session area ≡ false → IsSpared old new
  call_spares (Some r) old new reached leads apart = record {
    graph = ap (λ (t : Session). graph_lsas area (state t)) leads.session
        ∙ request_spares r old.session leads.taken reached (subst (λ (t : Session). IsReached t) leads.session leads.reached) apart;
    trees = λ router had. ap (λ (k : KeptRouters). is_kept k area router) leads.kept
        ∙ less_kept (request_touches r old.session) old.kept router apart ∙ had;
  }
  call_spares None old new reached leads apart = record {
    graph = ap (λ (t : Session). graph_lsas area (state t)) leads.session;
    trees = λ router had. leads.keeps area router had;
  }

  still_reached : (o : Option Request) (old new : PlannerValue) → IsReached old.session → Leads o old new → IsReached new.session
  still_reached (Some r) old new reached leads = leads.reached
  still_reached None old new reached leads = subst (λ (t : Session). IsReached t) (sym leads.session) reached

  pub calls_spare : (p : PlannerValue) (calls : List Call) → IsReached p.session → AreMade p calls → calls_touch p calls area ≡ false
      → IsSpared p (after_calls p calls)
  calls_spare p [] reached made apart = record { graph = refl; trees = λ router had. had }
  calls_spare p (call ∷ calls) reached made apart =
      let parts = or_parts (call_touches call.request p.session area) (calls_touch call.after calls area) apart in
      let first = call_spares call.request p call.after reached made.0 parts.0 in
      let rest = calls_spare call.after calls (still_reached call.request p call.after reached made.0) made.1 parts.1 in
      record { graph = rest.graph ∙ first.graph; trees = λ router had. rest.trees router (first.trees router had) }
