-- The end of a run at a file that is refused.
use Rattle.std.proofs.Common.{refl, ℕ, List, Option}
use Rattle.std.specs.Prelude.{IfSome}
use Rattle.capture_report.specs.Runs.{IsFileEnd}
use Rattle.capture_report.specs.steps.Inputs.{refusal}
use Rattle.network_files.specs.declared.fault.FileFault.{FileFault}
use Rattle.network_files.specs.declared.fault.FileFault.TheVariants as files
use Rattle.network_files.specs.ParsedFiles.{IsRefusalOf}

-- the known bytes are refused for this fault
abbrev pub AreRefused : (A : Type 0) → Option (List ℕ) → FileFault → Type 0
AreRefused A known fault = IfSome known (λ bytes. IsRefusalOf A bytes fault)

pub refused_end : (A : Type 0) (known : Option (List ℕ)) (index : ℕ) (fault : FileFault) → AreRefused A known fault
    → IsFileEnd A known index (refusal index fault)
refused_end A known index files.OutOfMemory refused = tt
refused_end A known index (files.Capture fault) refused = (refl, ((λ same. cc), refused))
refused_end A known index files.NotJson refused = (refl, ((λ same. cc), refused))
refused_end A known index files.NoDatabase refused = (refl, ((λ same. cc), refused))
refused_end A known index files.UnknownKind refused = (refl, ((λ same. cc), refused))
refused_end A known index files.Compressed refused = (refl, ((λ same. cc), refused))
