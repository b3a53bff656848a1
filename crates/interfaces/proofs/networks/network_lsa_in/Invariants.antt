use Rattle.std.proofs.Common.{◌≡◌, drop}
use Rattle.std.specs.List.{find}
use Rattle.lsdb.specs.Lists.{is_network}
use Rattle.interfaces.proofs.networks.network_lsa_in.Given as goal

-- none is found so far
abbrev pub invariant-loop-vertex : goal.invariant-loop-vertex
invariant-loop-vertex g l = find (is_network l.network) (drop l.vertex-index l.used) ≡ find (is_network l.network) l.used
