-- What a function that reads a part of a saved session returns.
use Rattle.std.specs.Prelude.{◌≡◌, ◌≤◌, ℕ, List, [], length, Result, Ok, Err, IfOk}
use Rattle.lsdb.specs.declared.fault.DumpFault.{DumpFault}
use Rattle.lsdb.specs.Loading.{At, IsFirstFault}
use Rattle.edit_history.specs.Session.{Session}
use Rattle.recalculate.specs.Planning.{PlannerValue}
use Rattle.saved_sessions.specs.Opening.{position_after}

-- what a function returned, seen by view, is what reading gives; or it is the first fault, or want of memory
abbrev pub Gives : {X Y : Type 0} → (X → Y) → Result X DumpFault → Result Y DumpFault → Type 0
Gives view (Ok x) read = read ≡ Ok (view x)
Gives view (Err fault) read = IsFirstFault fault read

-- a function carried edits out as they were read, and returned the offset after them; a planner without trees has none then
pub record CarriesOn (read : Result (Session × At) DumpFault) (bytes : List ℕ) (result : Result ℕ DumpFault) (old new : PlannerValue) : Type 0 where
  pub session : Gives (λ end. (new.session, position_after end bytes)) result read
  pub within : IfOk result (λ end. end ≤ length bytes)
  pub runs : new.runs ≡ old.runs
  pub kept : old.kept ≡ [] → new.kept ≡ []
