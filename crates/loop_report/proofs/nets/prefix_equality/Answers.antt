use Rattle.std.proofs.Common.{◌≡◌, nat_eq}
use Rattle.std.proofs.lemmas.Bool.{and_parts, eqb-true}
use Rattle.loop_report.proofs.nets.prefix_equality.Goals as goal

pub returns : goal.returns
returns c net other h =
    let parts = and_parts (nat_eq net.addr.0 other.addr.0) (nat_eq net.len other.len) h in
    let addr : net.addr.0 ≡ other.addr.0 = eqb-true net.addr.0 other.addr.0 parts.0 in
    let len : net.len ≡ other.len = eqb-true net.len other.len parts.1 in
    λ i. record { addr = record { 0 = addr i }; len = len i }
