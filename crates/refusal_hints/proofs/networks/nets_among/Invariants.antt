use Rattle.std.proofs.Common.{◌≡◌, take}
use Rattle.std.specs.List.{flat_map}
use Rattle.lsdb.specs.Slots.{lists_of}
use Rattle.refusal_hints.specs.NetworkHints.{nets_in}
use Rattle.refusal_hints.proofs.networks.nets_among.Given as goal

-- those of the areas so far
abbrev pub invariant-loop-area : goal.invariant-loop-area
invariant-loop-area g l = l.nets.items ≡ flat_map (nets_in (lists_of l.database) l.router) (take l.area-index l.areas)
