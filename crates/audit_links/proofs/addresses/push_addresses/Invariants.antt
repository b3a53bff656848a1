use Rattle.std.proofs.Common.{◌≡◌, ◌++◌, take}
use Rattle.std.specs.List.{flat_map}
use Rattle.audit_links.specs.Addresses.{addresses_of}
use Rattle.audit_links.proofs.addresses.push_addresses.Given as goal

-- the addresses of the routers so far were added
abbrev pub invariant-loop-router : goal.invariant-loop-router
invariant-loop-router g l = l.found.items ≡ l.initial.found.items ++ flat_map (addresses_of l.area) (take l.router-index l.router-items)
