-- A study that has begun, and its inputs, which are accepted.
use Rattle.std.proofs.Common.{◌≡◌, ◌∙◌, ap, sym, subst, refl, ℕ, List, Option, None, Some, Result, Ok, Err, IfErr, IsErrAnd, inl}
use Rattle.std.specs.Prelude.{IsOk, IfSome}
use Rattle.lsdb.specs.Lists.{Lists}
use Rattle.lsdb.specs.Slots.{Slots, lists_of}
use Rattle.edit_history.specs.Session.{Session}
use Rattle.branches.specs.Branches.{Sessions, resumed}
use Rattle.network_names.specs.File.{Taken, names_in}
use Rattle.network_names.specs.declared.names.Names.{Names as NamesOfFile}
use Rattle.saved_sessions.specs.Opening.{opened}
use Rattle.study_session.specs.Studies.{Study, study_by}
use Rattle.whole_run.specs.Inputs.{IsAccepted}
use Rattle.whole_study.specs.Begin.{AreAccepted, Begins, IsBaseline, names_of}
use Rattle.whole_study.specs.Calls.{MayEndRun}
use Rattle.whole_study.specs.Given.{Given}
use Rattle.whole_study.specs.steps.Texts.{IsNamesEnd, IsReadEnd, IsRefusedBaseline, Never}
use Rattle.whole_study.specs.declared.running.Manner.{Manner}
use Rattle.whole_study.specs.declared.fault.RunFault.{RunFault}
use Rattle.whole_study.specs.declared.fault.RunFault.TheVariants.{Dump, Baseline, Names, Read, Write, TooLarge, OutOfMemory}

-- the study of what was opened
pub begins_of : {A : Type 0} (how : Manner) (given : Given) (session : Session) (database : Slots) (file : List ℕ) (names : NamesOfFile A) (sessions : Sessions)
    (s : Study) → opened given.dump ≡ Ok session → IsBaseline session given.baseline (lists_of database) → file ≡ names_of given
    → Taken (names_in file) names → sessions ≡ resumed session → s ≡ study_by sessions database names how.is_verbose how.format → Begins how given s
begins_of how given session database file names sessions s dump baseline is_file taken resume is =
    subst (Begins how given) (sym is)
    (record {
      session = session;
      dump = dump;
      sessions = resume;
      baseline = baseline;
      named = taken.all;
      names = ap names_in (sym is_file) ∙ taken.given_is;
      lookup = taken.are.addresses;
      called = taken.are.routers;
      verbose = refl;
      format = refl;
    })

-- ---- inputs that are accepted

pub ok_of : {T E : Type 0} (r : Result T E) (x : T) → r ≡ Ok x → IsOk r
ok_of r x e = subst IsOk (sym e) refl

pub baseline_accepted : (s : Session) (given : Option (List ℕ)) (baseline : Lists) → IsBaseline s given baseline → IfSome given IsAccepted
baseline_accepted s None baseline is = tt
baseline_accepted s (Some bytes) baseline (other, (is, same)) = ok_of (opened bytes) other is

pub accepted_of : (how : Manner) (given : Given) (s : Study) → Begins how given s → AreAccepted given
accepted_of how given s begins = record {
  dump = ok_of (opened given.dump) begins.session begins.dump;
  baseline = baseline_accepted begins.session given.baseline s.baseline begins.baseline;
  names = ok_of (names_in (names_of given)) begins.named begins.names;
}

-- ---- inputs that are refused

-- `?` passes an error up as it is
pub passed_up : {T E : Type 0} (r : Result T E) (e : E) (P : E → Type 0) → IsErrAnd r (λ y. y ≡ e) → P e → IfErr r P
passed_up (Ok x) e P is holds = tt
passed_up (Err y) e P is holds = subst P (sym is) holds

-- the baseline is refused, where the dump is accepted
pub baseline_refused : {A : Type 0} (given : Given) (fault : RunFault A) → IsAccepted given.dump
    → IsReadEnd Never (IsRefusedBaseline given.baseline) ⊥ fault → MayEndRun given fault
baseline_refused given (Dump fault) dump end = absurd end
baseline_refused given (Baseline fault) dump (some, refused) = (some, (refused, inl dump))
baseline_refused given (Names refusal) dump end = absurd end
baseline_refused given Read dump end = tt
baseline_refused given Write dump end = absurd end
baseline_refused given TooLarge dump end = absurd end
baseline_refused given OutOfMemory dump end = tt

-- the names file is refused, where the dump and the baseline are accepted
pub names_refused : {A : Type 0} (given : Given) (file : List ℕ) (fault : RunFault A) → file ≡ names_of given → IsAccepted given.dump
    → IfSome given.baseline IsAccepted → IsNamesEnd file fault → MayEndRun given fault
names_refused given file (Dump fault) is dump baseline end = absurd end
names_refused given file (Baseline fault) is dump baseline end = absurd end
names_refused given file (Names refusal) is dump baseline end = (dump, (baseline, ap names_in (sym is) ∙ end))
names_refused given file Read is dump baseline end = absurd end
names_refused given file Write is dump baseline end = absurd end
names_refused given file TooLarge is dump baseline end = absurd end
names_refused given file OutOfMemory is dump baseline end = tt
