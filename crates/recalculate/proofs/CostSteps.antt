-- A change of the cost of one interface that the last step made, by the sessions before and after.
use Rattle.std.proofs.Common.{◌≡◌, ℕ, List, Some, sym, ap, ◌∙◌, subst}
use Rattle.lsa_codec.specs.declared.address.AreaId.{AreaId}
use Rattle.lsdb.specs.declared.slot.SlotId.{SlotId}
use Rattle.lsdb.specs.Lists.{IsDatabase, Lists}
use Rattle.lsdb.specs.Slots.{Slots, lists_of, put}
use Rattle.area_graph.specs.declared.cost_change.CostChange.{CostChange}
use Rattle.edit_history.specs.Journal.{HistoryData, Links}
use Rattle.edit_history.specs.Session.{Session, session_of, state}
use Rattle.edit_history.proofs.HistoryLemmas.{state_is}
use Rattle.unchanged_tables.specs.CostChanges.{IsCostChange}
use Rattle.edit_history.specs.declared.moved.Moved.{Moved}
use Rattle.recalculate.specs.Reached.{IsReached}
use Rattle.edit_history.specs.Moving.{IsOneChange, before}

-- the database of a session that was reached is one
pub reached_database : (s : Session) → IsReached s → IsDatabase (state s)
reached_database s reached =
    subst (λ (t : Session). IsDatabase (state t)) reached.shows
    (subst (λ (db : Lists). IsDatabase db) (sym (state_is reached.slots reached.history reached.links)) reached.links.sound)

-- a change of one LSA that the last step made is that of the cost
pub changed_by : (d : Slots) (h : HistoryData) (s : Session) (links : Links d h) (shows : session_of d h ≡ s) (slot : SlotId) (was : List ℕ) (area : AreaId)
    (change : CostChange) (moved : Moved) → IsOneChange moved d h slot was → IsCostChange area change (lists_of (put d slot (Some was))) (lists_of d)
    → IsCostChange area change (state (before moved s)) (state s)
changed_by d h s links shows slot was area change moved one made =
    subst (λ (db : Lists). IsCostChange area change (state (before moved s)) db) (sym (state_is d h links) ∙ ap (λ (t : Session). state t) shows)
    (subst (λ (db : Lists). IsCostChange area change db (lists_of d)) (sym one.leads_from ∙ ap (λ (t : Session). state (before moved t)) shows) made)
