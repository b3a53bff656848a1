use Rattle.std.proofs.Common.{◌-◌, ◌^◌}
use Rattle.loop_report.proofs.Search.{IsReached}
use Rattle.loop_report.proofs.atoms.Atoms.address_of.Given as goal

-- the prefix covers the address, and no address of the atom is less
abbrev pub invariant-covered : goal.invariant-covered
invariant-covered g l = IsReached l.self l.net l.address

abbrev pub decreases-covered : goal.decreases-covered
decreases-covered g l = 2 ^ 32 - l.address.0
