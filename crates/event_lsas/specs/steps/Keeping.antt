-- LSAs that stay as they are because others in their place would not be accepted.
use Rattle.std.specs.Prelude.{◌≡◌}
use Rattle.lsa_remaking.specs.declared.fault.RemakeFault.{RemakeFault}
use Rattle.lsa_remaking.specs.declared.fault.RemakeFault.TheVariants.{TooLong, Rejected, OutOfMemory}
use Rattle.event_lsas.specs.Outcomes.{LsaChange, kept}

-- an LSA that cannot be rebuilt is kept, unless memory ran out
abbrev pub IsKeptFor : RemakeFault → LsaChange → Type 0
IsKeptFor TooLong change = change ≡ kept
IsKeptFor (Rejected fault) change = change ≡ kept
IsKeptFor OutOfMemory change = Unit {0}
