use Rattle.std.proofs.Common.{List, length, ap}
use Rattle.std.specs.Prelude.{nat_lt}
use Rattle.lsa_codec.specs.declared.address.RouterId.{RouterId}
use Rattle.audit_topology.proofs.router_tests.has_several_routers.Goals as goal

pub returns : goal.returns
returns g c = ap (λ (routers : List RouterId). nat_lt 1 (length routers)) c.routers.ensures
