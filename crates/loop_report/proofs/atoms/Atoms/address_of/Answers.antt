use Rattle.std.proofs.Common.{arith, ap, sym, subst}
use Rattle.lsa_codec.specs.declared.address.Addr.{Addr}
use Rattle.loop_report.proofs.Search.{IsReached, none_after, onward, reached_first, reached_last, reached_next}
use Rattle.loop_report.proofs.atoms.Atoms.address_of.Goals as goal

pub covered-init : goal.covered-init
covered-init g c =
    subst (λ (a : Addr). IsReached c.args.self.now c.args.net a) (sym c.addr-address.ensures.addr)
    (reached_first c.args.self.now c.args.net (omega (arith, ap (λ (a : Addr). a.0) c.addr-address.ensures.addr)) c.addr-address.ensures.prefix)

pub covered-preserved : goal.covered-preserved
covered-preserved g c =
    reached_next c.args.self.now c.args.net c.covered.address c.covered.invariant c.in-Some.longer c.in-Some.ensures c.in-Some-next_before_end.next
    (omega arith) c.in-Some-next_before_end.ensures.0 c.in-Some-next_before_end.ensures.1

pub covered-smaller : goal.covered-smaller
covered-smaller g c =
    let on = onward c.args.self.now c.args.net c.covered.address c.covered.invariant c.in-Some.longer c.in-Some.ensures in
    omega (arith, on, c.in-Some-next_before_end.ensures.0)

pub returns-in_default-next_before_end : goal.returns-in_default-next_before_end
returns-in_default-next_before_end g c =
    none_after c.args.self.now c.args.net c.covered.address c.covered.invariant c.in-Some.longer c.in-Some.ensures c.in_default-next_before_end.ensures

pub returns : goal.returns
returns g c = reached_last c.args.self.now c.args.net c.covered.address c.covered.invariant (omega arith) c.in_default.ensures
