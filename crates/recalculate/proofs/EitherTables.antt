-- A cached table: what is noted before it, and which trees come for it.
use Rattle.std.proofs.Common.{◌≡◌, ◌+◌, Option, Result, refl, ap, ◌∙◌, sym, subst, arith}
use Rattle.std.specs.Prelude.{OnOk}
use Rattle.lsa_codec.specs.declared.address.RouterId.{RouterId}
use Rattle.edit_history.specs.Session.{state}
use Rattle.routing_table.specs.Counting.{counted_by}
use Rattle.routing_table.specs.KeptTrees.{KeptRouters}
use Rattle.routing_table.specs.declared.table.TableFault.{TableFault}
use Rattle.routing_table.proofs.TableLemmas.{on_ok}
use Rattle.recalculate.specs.Asking.{GainsTrees, HasTrees, HasTreesOfTable, IsAskedAgain, lacking}
use Rattle.recalculate.specs.Calls.{Stayed}
use Rattle.recalculate.specs.CallsForTables.{CalculatesEither, CalculatesTrees, KeepsBaseline, NotesAsked}
use Rattle.recalculate.specs.Planning.{PlannerValue}
use Rattle.recalculate.proofs.Asked.{base_counted, gained_none, gains_none, gains_same, more_at_most, none_at_most, same_at_most}
use Rattle.recalculate.proofs.Asked.{shared_at_most, shared_few, shared_gains, shared_runs, shared_trees, unchanged_runs}
use Rattle.recalculate.proofs.Calculated.{all_on, at_most_by, counted_on, gains_by}

-- ---- what is noted

-- what is shown where another router was asked for
abbrev pub asked_for : Option RouterId → PlannerValue → PlannerValue
asked_for asked p = record p { tables = record p.tables { asked = asked } }

module _ (router : RouterId) (asked : Option RouterId) (p : PlannerValue) where
  pub noted_alone : NotesAsked router p (asked_for asked p)
  noted_alone = record {
    step = record { session = refl; keeps = λ area root there. there };
    kept = refl;
    gains = gains_none p.session.base router p.first_kept;
    first_kept = λ apart. refl;
    few = λ apart. refl;
    runs = λ first. ap (λ n. counted_by n p.runs) (sym (gained_none p.session.base router p.first_kept));
    at_most = none_at_most (lacking p.session.base router p.first_kept) p.runs;
  }

  -- the table of the database that the session began at was asked for too
  pub noted_again : {T : Type 0} (r : Result T TableFault) (q : PlannerValue) → IsAskedAgain router p → Stayed (asked_for asked p) q → q.kept ≡ p.kept
      → CalculatesTrees p.session.base router r (p.first_kept, p.runs) (q.first_kept, q.runs)
      → KeepsBaseline router r (asked_for asked p) q → NotesAsked router p q
  noted_again r q again step kept made keeps = record {
    step = record { session = step.session; keeps = step.keeps };
    kept = kept;
    gains = gains_by p.session.base router r (p.first_kept, p.runs) (q.first_kept, q.runs) made;
    first_kept = λ apart. absurd (apart again);
    few = λ apart. absurd (apart again);
    runs = λ first. base_counted p.session.base router (asked_for asked p) q r made keeps (first again);
    at_most = at_most_by p.session.base router r (p.first_kept, p.runs) (q.first_kept, q.runs) made;
  }

-- ---- which trees come

module _ {T : Type 0} (router : RouterId) (r : Result T TableFault) where
  module _ (p q : PlannerValue) (noted : NotesAsked router p q) where
    -- those that came with the note, where the table of the database that the session began at is answered
    pub noted_come : OnOk r (HasTreesOfTable router q) → CalculatesEither router r p q
    noted_come there = record {
      trees = there;
      gains = gains_same (state p.session) router p.kept q.kept noted.kept;
      first_gains = noted.gains;
      first_kept = noted.first_kept;
      runs = on_ok r (λ again. unchanged_runs router p q q noted.step.session noted.kept noted.runs again);
      at_most = more_at_most (lacking p.session.base router p.first_kept)
          (lacking (state p.session) router p.kept + lacking p.session.base router p.first_kept) p.runs q.runs (omega arith) noted.at_most;
      few = λ apart. same_at_most (lacking (state p.session) router p.kept) p.runs q.runs (noted.few apart);
    }

    -- and those of the table of the session's database
    pub both_come : (z : PlannerValue) → z.session ≡ q.session → z.first_kept ≡ q.first_kept → z.tables.first ≡ q.tables.first
        → CalculatesTrees (state q.session) router r (q.kept, q.runs) (z.kept, z.runs) → CalculatesEither router r p z
    both_come z session first_kept first made = record {
      trees = shared_trees r q.session router z session (all_on (state q.session) router r (q.kept, q.runs) (z.kept, z.runs) made);
      gains = shared_gains router p q z noted.step.session noted.kept (gains_by (state q.session) router r (q.kept, q.runs) (z.kept, z.runs) made);
      first_gains = subst (λ (k : KeptRouters). GainsTrees p.session.base router p.first_kept k) (sym first_kept) noted.gains;
      first_kept = λ apart. first_kept ∙ noted.first_kept apart;
      runs = shared_runs router p q z noted.step.session noted.kept r
          (counted_on (state q.session) router r (q.kept, q.runs) (z.kept, z.runs) made)
          (all_on (state q.session) router r (q.kept, q.runs) (z.kept, z.runs) made) noted.runs first_kept first;
      at_most = shared_at_most router p q z noted.step.session noted.kept (lacking p.session.base router p.first_kept) noted.at_most
          (at_most_by (state q.session) router r (q.kept, q.runs) (z.kept, z.runs) made);
      few = λ apart. shared_few router p q z noted.step.session noted.kept (noted.few apart)
          (at_most_by (state q.session) router r (q.kept, q.runs) (z.kept, z.runs) made);
    }

  -- none, where the table is kept
  pub none_come : (p : PlannerValue) → OnOk r (HasTrees (state p.session) router p.kept) → CalculatesEither router r p p
  none_come p there = noted_come p p (noted_alone router p.tables.asked p) (shared_trees r p.session router p refl there)
