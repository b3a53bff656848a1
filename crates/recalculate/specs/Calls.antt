-- What calls do to what a planner shows, one after another, and which areas they touch on the way.
use Rattle.std.specs.Prelude.{◌≡◌, ◌≤◌, Bool, true, false, ◌||◌, filter, List, [], ◌∷◌, length, Option, Some, None, Result, IsOk, OnOk, OnErr}
use Rattle.lsa_codec.specs.declared.address.AreaId.{AreaId}
use Rattle.lsa_codec.specs.declared.address.RouterId.{RouterId}
use Rattle.lsdb.specs.Lists.{AreaHead}
use Rattle.area_routes.specs.Attached.{attached_areas}
use Rattle.edit_script.specs.declared.edit.Edit.{Edit}
use Rattle.edit_script.specs.declared.edit.Edit.TheVariants.{Cost, DropLink, FailLink, FailNet, FailRouter, AddStub, Summary, AddSummary}
use Rattle.edit_script.specs.declared.edit.Edit.TheVariants.{AddExternal, DropExternal, Refresh, Event as of_event}
use Rattle.edit_history.specs.Effect.{edit_touches}
use Rattle.edit_history.specs.Session.{Session, Request, edit, undo, redo, after_request, edited, redo_touches, state, undo_touches}
use Rattle.routing_table.specs.KeptTrees.{IsWithin, areas_without_tree, is_kept, less_touched}
use Rattle.recalculate.specs.Planning.{PlannerValue, without_last}
use Rattle.recalculate.specs.Reached.{IsReached}

-- ---- one call

-- a session takes a request: an edit that it does not refuse, or to undo or redo no more edits than there are
abbrev pub IsTaken : Request → Session → Type 0
IsTaken (edit e) s = IsOk (edited s e)
IsTaken (undo k) s = k ≤ length s.done
IsTaken (redo k) s = k ≤ length s.undone

-- whether one of the edits touches an area that a request carries out, takes back, or carries out again
abbrev pub request_touches : Request → Session → AreaId → Bool
request_touches (edit e) s area = edit_touches area (state s) e
request_touches (undo k) s area = undo_touches k area s
request_touches (redo k) s area = redo_touches k area s

-- a call carried a request out: the last table went, and the trees of the areas that it touches, and no others; none was
-- calculated, and nothing else changed
pub record CarriedOut (request : Request) (old new : PlannerValue) : Type 0 where
  pub taken : IsTaken request old.session
  pub session : new.session ≡ after_request old.session request
  pub reached : IsReached new.session
  pub runs : new.runs ≡ old.runs
  pub kept : new.kept ≡ less_touched (request_touches request old.session) old.kept
  pub others : new ≡ record old { session = new.session; kept = new.kept; tables = without_last old.tables }

-- a call carries a request out where it succeeds, and else leaves the planner as it was
pub record CarriesOut {T F : Type 0} (request : Request) (result : Result T F) (old new : PlannerValue) : Type 0 where
  pub ok : OnOk result (CarriedOut request old new)
  pub err : OnErr result (new ≡ old)
  pub runs : new.runs ≡ old.runs

-- a call left the session as it was, and no tree went: it asked for a table, or an error was its answer
pub record Stayed (old new : PlannerValue) : Type 0 where
  pub session : new.session ≡ old.session
  pub keeps : IsWithin (is_kept old.kept) (is_kept new.kept)

-- ---- calls, one after another

-- the request that a call carried out, if it did, and what the planner shows after the call
pub record Call : Type 0 where
  pub request : Option Request
  pub after : PlannerValue

abbrev pub Leads : Option Request → PlannerValue → PlannerValue → Type 0
Leads (Some request) old new = CarriedOut request old new
Leads None old new = Stayed old new

-- the calls were made on a planner, each on what the one before it left
abbrev pub AreMade : PlannerValue → List Call → Type 0
AreMade p [] = Unit {0}
AreMade p (call ∷ calls) = Leads call.request p call.after × AreMade call.after calls

-- what the planner shows after all of them
abbrev pub after_calls : PlannerValue → List Call → PlannerValue
after_calls p [] = p
after_calls p (call ∷ calls) = after_calls call.after calls

-- a call that carried out no request touches no area
abbrev pub call_touches : Option Request → Session → AreaId → Bool
call_touches None s area = false
call_touches (Some request) s area = request_touches request s area

-- whether one of the calls touches an area
abbrev pub calls_touch : PlannerValue → List Call → AreaId → Bool
calls_touch p [] area = false
calls_touch p (call ∷ calls) area = call_touches call.request p.session area || calls_touch call.after calls area

-- ---- the areas of a router

-- those that the router is attached to
abbrev pub areas_of_router : RouterId → PlannerValue → List AreaHead
areas_of_router router p = attached_areas (state p.session) router

-- of these those whose tree of the router is not kept
abbrev pub areas_lacking : RouterId → PlannerValue → List AreaHead
areas_lacking router p = areas_without_tree (is_kept p.kept) router (areas_of_router router p)

-- whether one of the calls touches an area, by its head
abbrev pub head_touched : PlannerValue → List Call → AreaHead → Bool
head_touched p calls head = calls_touch p calls (record { 0 = head.id })

-- the areas that the router is attached to after calls, and that one of them touches
abbrev pub areas_touched : RouterId → PlannerValue → List Call → List AreaHead
areas_touched router p calls = filter (head_touched p calls) (areas_of_router router (after_calls p calls))

-- ---- edits of LSAs that are in no graph

-- whether an edit is of summary-LSAs or AS-external-LSAs
abbrev pub is_of_route : Edit → Bool
is_of_route (Cost area router link metric) = false
is_of_route (DropLink area router link) = false
is_of_route (FailLink area router neighbor) = false
is_of_route (FailNet area network) = false
is_of_route (FailRouter router) = false
is_of_route (AddStub area router prefix metric) = false
is_of_route (Summary area router prefix metric) = true
is_of_route (AddSummary area router prefix metric) = true
is_of_route (AddExternal router prefix metric_type metric forward tag) = true
is_of_route (DropExternal router prefix) = true
is_of_route Refresh = true
is_of_route (of_event event) = false
