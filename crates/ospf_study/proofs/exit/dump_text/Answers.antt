use Rattle.std.proofs.Common.{◌≡◌, ◌++◌, ℕ, List, append_assoc, refl, rules}
use Rattle.std.specs.Prelude.{codes}
use Rattle.lsdb.specs.declared.fault.DumpFault.{DumpFault}
use Rattle.lsdb.specs.declared.fault.DumpFaultKind.{DumpFaultKind}
use Rattle.lsdb.specs.declared.fault.DumpFaultKind.TheVariants as kind
use Rattle.lsdb.specs.Faults.{fault_text}
use Rattle.ospf_study.specs.Exit.{dump_text_by}
use Rattle.ospf_study.proofs.exit.dump_text.Goals as goal

-- a fault that is not want of memory
other_text : (what : List ℕ) (k : DumpFaultKind) (fault : DumpFault) → (k ≡ kind.OutOfMemory → ⊥)
    → dump_text_by what k fault ≡ what ++ codes ": " ++ fault_text fault ++ codes "\n"
other_text what kind.OutOfMemory fault other = absurd (other refl)
other_text what _ fault other = refl

pub returns-in_default : goal.returns-in_default
returns-in_default c =
    rw (other_text c.args.what.now c.args.fault.kind c.args.fault c.in_default.not-OutOfMemory) (search (rules, append_assoc))
