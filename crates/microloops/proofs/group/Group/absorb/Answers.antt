use Rattle.std.proofs.Common.{true, refl, subst}
use Rattle.microloops.specs.steps.Groups.{GroupValue, IsJoined}
use Rattle.microloops.proofs.Members.{absorbed}
use Rattle.microloops.proofs.group.Group.absorb.Goals as goal

pub returns : goal.returns
returns g c =
    let first : GroupValue = record { routers = c.self.inside.routers; pending = c.self.inside.pending.items; is_loop = c.self.inside.is_loop } in
    let second : GroupValue = record { routers = c.other.inside.routers; pending = c.other.inside.pending.items; is_loop = c.other.inside.is_loop } in
    let joined : GroupValue = record { routers = c.append.new.self; pending = c.append-2.new.self.items; is_loop = true } in
    subst (λ (a : GroupValue). IsJoined a c.args.other joined) c.self.view_is
    (subst (λ (b : GroupValue). IsJoined first b joined) c.other.view_is
    (absorbed first second joined c.in_ok-append.ensures.inserts_all c.in_ok-append-2.ensures.items refl))
