-- What calls leave that ask for tables.
use Rattle.std.proofs.Common.{◌≡◌, ◌∙◌, ℕ, true, Option, Result, ap, subst, sym}
use Rattle.lsa_codec.specs.declared.address.RouterId.{RouterId}
use Rattle.lsdb.specs.Lists.{Lists}
use Rattle.edit_history.specs.Session.{Session, state}
use Rattle.routing_table.specs.AreasTrees.{routers_of}
use Rattle.routing_table.specs.KeptTrees.{KeptRouters, is_kept}
use Rattle.routing_table.specs.Tables.{TableValue}
use Rattle.routing_table.specs.declared.table.TableFault.{TableFault}
use Rattle.recalculate.specs.Calls.{Stayed}
use Rattle.recalculate.specs.CallsForTables.{CalculatesTrees}
use Rattle.recalculate.specs.Planning.{CacheValue, PlannerValue}
use Rattle.recalculate.proofs.Calculated.{gains_by}
use Rattle.recalculate.proofs.CallsSpare.{shown}

-- one call after another
pub stayed_twice : (p q r : PlannerValue) → Stayed p q → Stayed q r → Stayed p r
stayed_twice p q r first second = record {
  session = second.session ∙ first.session;
  keeps = λ area router there. second.keeps area router (first.keeps area router there);
}

-- the session stays, and so do the trees of its database
pub stayed_same : (p q : PlannerValue) → q.session ≡ p.session → q.kept ≡ p.kept → Stayed p q
stayed_same p q session kept = record {
  session = session;
  keeps = λ area router there. subst (λ (k : KeptRouters). is_kept k area router ≡ true) (sym kept) there;
}

-- more is kept of the session's database
module _ (s : Session) (runs now_runs : ℕ) (old new baseline : CacheValue) (asked : Option RouterId) where
  pub grown_shown : new.table ≡ old.table
      → shown s now_runs new baseline asked ≡ record (shown s runs old baseline asked) { runs = now_runs; kept = routers_of new.trees }
  grown_shown same =
      ap (λ (o : Option TableValue). shown s now_runs (record { trees = new.trees; externals = new.externals; table = o }) baseline asked) same

  -- a table was made over what is kept of it
  module _ {T : Type 0} (r : Result T TableFault) (db : Lists) (router : RouterId) (same : db ≡ state s) (p : PlannerValue)
      (shows : shown s runs old baseline asked ≡ p)
      (made : CalculatesTrees db router r (routers_of old.trees, runs) (routers_of new.trees, now_runs)) where
    pub trees_made : CalculatesTrees (state p.session) router r (p.kept, p.runs) (routers_of new.trees, now_runs)
    trees_made =
        subst (λ (q : PlannerValue). CalculatesTrees (state q.session) router r (q.kept, q.runs) (routers_of new.trees, now_runs)) shows
        (subst (λ (d : Lists). CalculatesTrees d router r (routers_of old.trees, runs) (routers_of new.trees, now_runs)) same made)

    pub trees_stay : Stayed p (shown s now_runs new baseline asked)
    trees_stay = record {
      session = ap (λ (q : PlannerValue). q.session) shows;
      keeps = (gains_by (state p.session) router r (p.kept, p.runs) (routers_of new.trees, now_runs) trees_made).keeps;
    }
