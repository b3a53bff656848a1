-- How a run of studies in an opened session ends.
use Rattle.whole_study.specs.declared.fault.RunFault.{RunFault}
use Rattle.whole_study.specs.declared.fault.RunFault.TheVariants.{Dump, Baseline, Names, Read, Write, TooLarge, OutOfMemory}

-- a writer has failed, or memory ran out
abbrev pub MayEndWriting : {A : Type 0} → RunFault A → Type 0
MayEndWriting (Dump fault) = ⊥
MayEndWriting (Baseline fault) = ⊥
MayEndWriting (Names refusal) = ⊥
MayEndWriting Read = ⊥
MayEndWriting Write = Unit {0}
MayEndWriting TooLarge = ⊥
MayEndWriting OutOfMemory = Unit {0}
