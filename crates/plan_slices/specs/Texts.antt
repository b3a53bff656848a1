-- The texts of a run that a host may want, and the line of a run that ended early.
use Rattle.std.specs.Prelude.{◌≡◌, ℕ, Bool, true, false, List, [], ◌++◌, codes}
use Rattle.lsdb.specs.Faults.{fault_text as dump_fault_text}
use Rattle.whole_run.specs.Run.{run_answers, run_text, final_dump, final_session}
use Rattle.whole_run.specs.WholeRun.{IsSummaryOf}
use Rattle.whole_run.specs.declared.fault.RunFault.{RunFault}
use Rattle.whole_run.specs.declared.fault.RunFault.TheVariants.{Dump, Read, Write, TooLarge, OutOfMemory}
use Rattle.plan_slices.specs.declared.planning.Wanted.{Wanted}
use Rattle.plan_slices.specs.declared.planning.PlanTexts.{PlanTexts}

-- a text where it is wanted, and else none
abbrev pub text_if : Bool → List ℕ → List ℕ
text_if true text = text
text_if false text = []

-- the texts that are wanted of what a script writes on a dump, and the counts of its answers
pub record AreTextsOf {A : Type 0} (dump script : List ℕ) (wanted : Wanted) (texts : PlanTexts A) : Type 0 where
  pub replies_are : texts.replies.items ≡ text_if wanted.replies (run_text dump script)
  pub dump_is : texts.dump.items ≡ text_if wanted.dump (final_dump dump script)
  pub session_is : texts.session.items ≡ text_if wanted.session (final_session dump script)
  pub summary_is : IsSummaryOf (run_answers dump script) texts.summary

-- ---- faults

-- the line for a run that ended early, as `ospf-plan` has it on standard error
abbrev pub end_text : RunFault → List ℕ
end_text (Dump fault) = codes "dump: " ++ dump_fault_text fault ++ codes "\n"
end_text Read = codes "file: Read\n"
end_text Write = codes "memory: OutOfMemory\n"
end_text TooLarge = codes "file: TooLarge\n"
end_text OutOfMemory = codes "memory: OutOfMemory\n"
