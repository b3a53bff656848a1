-- How the program ends names the names file as it was given.
use Rattle.std.proofs.Common.{◌≡◌, ℕ, List, Result, Ok, Err, sym, subst}
use Rattle.std.specs.Prelude.{IfErr}
use Rattle.whole_study.specs.declared.fault.RunFault.{RunFault}
use Rattle.whole_study.specs.declared.fault.RunFault.TheVariants as «run»
use Rattle.whole_study.specs.declared.running.Ended.{Ended}
use Rattle.std.specs.Global.{Global}
use Rattle.host_io.specs.declared.fault.ReplaceFault.{ReplaceFault}
use Rattle.host_io.specs.declared.fault.ReplaceFault.TheVariants as replace
use Rattle.ospf_study.specs.declared.arguments.Options.{Options}
use Rattle.ospf_study.specs.declared.fault.ExitFault.{ExitFault}
use Rattle.ospf_study.specs.declared.fault.ExitFault.TheVariants.{Run, Open, OpenStudy}
use Rattle.ospf_study.specs.Exit.{IsBeforeRun, IsEndFault, IsNamed, IsNamedFor, IsNotReplacedFor, names_file}

pub named_before : (o : Options) (fault : ExitFault) → IsBeforeRun fault → IsNamed o fault
named_before o (Run names fault) before = subst (IsNamedFor o names.now) (sym before) tt
named_before o (Open file) before = tt
named_before o (OpenStudy name) before = tt

named_as : {A : Type 0} (o : Options) (names : List ℕ) (fault : RunFault A) → names ≡ names_file o → IsNamedFor o names fault
named_as o names (run.Dump fault) same = tt
named_as o names (run.Baseline fault) same = tt
named_as o names (run.Names refusal) same = same
named_as o names run.Read same = tt
named_as o names run.Write same = tt
named_as o names run.TooLarge same = tt
named_as o names run.OutOfMemory same = tt

not_replaced_named : (o : Options) (fault : ExitFault) (why : ReplaceFault) → IsNotReplacedFor why fault → IsNamed o fault
not_replaced_named o (Run names fault) replace.Open is = absurd cc
not_replaced_named o (Run names fault) replace.Write is = subst (IsNamedFor o names.now) (sym is) tt
not_replaced_named o (Open file) why is = tt
not_replaced_named o (OpenStudy name) why is = tt

named_end : {A : Type 0} (o : Options) (end : Result (Ended A) (RunFault Global)) (fault : ExitFault) → IsEndFault o end fault → IsNamed o fault
named_end o (Ok ended) fault (why, is) = not_replaced_named o fault why is
named_end o (Err end) (Run names fault) (same, is) = named_as o names.now fault same
named_end o (Err end) (Open file) is = absurd is
named_end o (Err end) (OpenStudy name) is = absurd is

-- a call that hands on how a run ended
pub named_ended : {A T : Type 0} (o : Options) (end : Result (Ended A) (RunFault Global)) (r : Result T ExitFault) → IfErr r (IsEndFault o end)
    → IfErr r (IsNamed o)
named_ended o end (Ok x) is = tt
named_ended o end (Err fault) is = named_end o end fault is
