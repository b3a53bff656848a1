-- A whole run, where the bytes of its inputs are known.
use Rattle.std.specs.Prelude.{◌≡◌, ℕ, List, length, count_by, Option, None, Some, IfSome}
use Rattle.host_io.specs.WholeText.{IsLonger}
use Rattle.branches.specs.Replies.{Answer}
use Rattle.whole_run.specs.Inputs.{IsAccepted, IsRefusedDump, longest_script}
use Rattle.whole_run.specs.declared.script.Summary.{Summary}
use Rattle.whole_run.specs.declared.fault.RunFault.{RunFault}
use Rattle.whole_run.specs.declared.fault.RunFault.TheVariants.{Dump, Read, Write, TooLarge, OutOfMemory}

-- P of both texts, where they are known
abbrev pub IfBoth : Option (List ℕ) → Option (List ℕ) → (List ℕ → List ℕ → Type 0) → Type 0
IfBoth None script P = Unit {0}
IfBoth (Some bytes) None P = Unit {0}
IfBoth (Some bytes) (Some text) P = P bytes text

-- how many answers refuse their line
abbrev pub refused_count : List Answer → ℕ
refused_count answered = count_by (λ answer. answer.refused) answered

-- the counts of these answers
abbrev pub IsSummaryOf : List Answer → Summary → Type 0
IsSummaryOf answered summary = (summary.commands ≡ length answered) × (summary.refused ≡ refused_count answered)

-- a run reports the dump's first fault, and reports that a script is too large only where the dump is accepted and it is
abbrev pub MayEndRun : Option (List ℕ) → Option (List ℕ) → RunFault → Type 0
MayEndRun dump script (Dump fault) = IsRefusedDump dump fault
MayEndRun dump script Read = Unit {0}
MayEndRun dump script Write = IfSome dump IsAccepted
MayEndRun dump script TooLarge = IfSome dump IsAccepted × IsLonger script longest_script
MayEndRun dump script OutOfMemory = Unit {0}

-- faults that come before the first reply
abbrev pub IsBeforeReplies : RunFault → Type 0
IsBeforeReplies (Dump fault) = Unit {0}
IsBeforeReplies Read = Unit {0}
IsBeforeReplies TooLarge = Unit {0}
IsBeforeReplies Write = ⊥
IsBeforeReplies OutOfMemory = ⊥
