-- What calls that ask for the table of a router answer, calculate and keep for it. `early` and `late` are the trees that are kept and the
-- count of trees, as a call begins and ends.
use Rattle.std.specs.Prelude.{◌≡◌, ◌≢◌, ◌+◌, ℕ, Option, Some, None, Result, MatchResult, IfOk, IfErr, OnOk}
use Rattle.lsa_codec.specs.declared.address.RouterId.{RouterId}
use Rattle.lsdb.specs.Lists.{Lists}
use Rattle.edit_history.specs.Session.{state}
use Rattle.routing_table.specs.Counting.{counted_by, CountsAtMost}
use Rattle.routing_table.specs.KeptTrees.{KeptRouters}
use Rattle.routing_table.specs.Tables.{FaultMeans, TableValue, table_in}
use Rattle.routing_table.specs.declared.table.TableFault.{TableFault}
use Rattle.routing_table.specs.declared.table.TableFault.TheVariants.{NoRouter}
use Rattle.recalculate.specs.Asking.{GainsTrees, HasTrees, HasTreesOfTable, IsAskedAgain, gained, lacking}
use Rattle.recalculate.specs.Calls.{Stayed}
use Rattle.recalculate.specs.Planning.{PlannerValue, router_of}

-- ---- the table

-- a call answers the table of a router in a database, which `table_of` finds in the answer; a fault is that there is none, or want
-- of memory
pub record ShowsTable {T : Type 0} (result : Result T TableFault) (table_of : T → TableValue) (db : Lists) (router : RouterId) : Type 0 where
  pub found : IfOk result (λ answer. table_in db router ≡ Some (table_of answer))
  pub fault : IfErr result (FaultMeans (table_in db router))

-- ---- a number of trees

-- a call that answers counts this number of trees; one that ends with a fault at most this number, and none where the router has
-- no table
pub record CountsSome (trees : ℕ) (fault : TableFault) (early late : ℕ) : Type 0 where
  pub no_router : fault ≡ NoRouter → late ≡ early
  pub at_most : CountsAtMost trees early late

abbrev pub CountsTrees : {T : Type 0} → ℕ → Result T TableFault → ℕ → ℕ → Type 0
CountsTrees trees result early late = MatchResult result (λ _. late ≡ counted_by trees early) (λ fault. CountsSome trees fault early late)

-- ---- the trees of a router in a database, which are kept

module _ (db : Lists) (router : RouterId) where
  -- those that were not kept are calculated, each counts, and then all are kept; no other tree comes, and none goes
  pub record CalculatesAll (early late : KeptRouters × ℕ) : Type 0 where
    pub counts : late.1 ≡ counted_by (lacking db router early.0) early.1
    pub all : HasTrees db router late.0
    pub gains : GainsTrees db router early.0 late.0

  -- some of them are, until a fault
  pub record CalculatesSome (fault : TableFault) (early late : KeptRouters × ℕ) : Type 0 where
    pub counts : CountsSome (lacking db router early.0) fault early.1 late.1
    pub gains : GainsTrees db router early.0 late.0

  -- all for an answer, else some
  abbrev pub CalculatesTrees : {T : Type 0} → Result T TableFault → KeptRouters × ℕ → KeptRouters × ℕ → Type 0
  CalculatesTrees result early late = MatchResult result (λ _. CalculatesAll early late) (λ fault. CalculatesSome fault early late)

-- the table that a call answers is kept; after a fault none is
abbrev pub KeepsTable : {T : Type 0} → RouterId → Result T TableFault → Option TableValue → Type 0
KeepsTable router result table = MatchResult result (λ _. router_of table ≡ Some router) (λ _. table ≡ None)

-- ---- calls of a planner

-- the table of the database that the session began at is kept that a call answers; after a fault none is, or nothing changed
abbrev pub KeepsBaseline : {T : Type 0} → RouterId → Result T TableFault → PlannerValue → PlannerValue → Type 0
KeepsBaseline router result old new =
    MatchResult result (λ _. new.tables.first ≡ Some router) (λ _. new.tables.first ≢ None → new ≡ old)

-- a call notes that the router's table is asked for, and may keep its table of the database that the session began at
pub record NotesAsked (router : RouterId) (old new : PlannerValue) : Type 0 where
  pub step : Stayed old new
  pub kept : new.kept ≡ old.kept
  pub gains : GainsTrees old.session.base router old.first_kept new.first_kept
  pub first_kept : ¬ IsAskedAgain router old → new.first_kept ≡ old.first_kept
  pub few : ¬ IsAskedAgain router old → new.runs ≡ old.runs
  pub runs : (IsAskedAgain router old → new.tables.first ≡ Some router)
      → new.runs ≡ counted_by (gained old.session.base router old.first_kept new.first_kept) old.runs
  pub at_most : CountsAtMost (lacking old.session.base router old.first_kept) old.runs new.runs

-- a call may calculate the router's trees in the session's database and in the one that it began at, there only where its table
-- was asked for last and one edit is done: no other tree comes, none goes, and each that comes counts, and no other, unless
-- memory ran out over the latter database
pub record CalculatesEither {T : Type 0} (router : RouterId) (result : Result T TableFault) (old new : PlannerValue) : Type 0 where
  pub trees : OnOk result (HasTreesOfTable router new)
  pub gains : GainsTrees (state old.session) router old.kept new.kept
  pub first_gains : GainsTrees old.session.base router old.first_kept new.first_kept
  pub first_kept : ¬ IsAskedAgain router old → new.first_kept ≡ old.first_kept
  pub runs : OnOk result ((IsAskedAgain router old → new.tables.first ≡ Some router)
      → new.runs ≡ counted_by (gained (state old.session) router old.kept new.kept)
      (counted_by (gained old.session.base router old.first_kept new.first_kept) old.runs))
  pub at_most : CountsAtMost (lacking (state old.session) router old.kept + lacking old.session.base router old.first_kept)
      old.runs new.runs
  pub few : ¬ IsAskedAgain router old → CountsAtMost (lacking (state old.session) router old.kept) old.runs new.runs
