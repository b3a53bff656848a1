use Rattle.std.proofs.Common.{◌≡◌, take}
use Rattle.std.specs.List.{flat_map}
use Rattle.audit_links.specs.Addresses.{addresses_in}
use Rattle.audit_links.proofs.addresses.addresses_in.Given as goal

-- the addresses of the areas so far
abbrev pub invariant-loop-area : goal.invariant-loop-area
invariant-loop-area g l = l.found.items ≡ flat_map addresses_in (take l.area-index l.areas)
