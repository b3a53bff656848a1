use Rattle.std.proofs.Common.{List, ◌++◌, ◌+◌, drop, ap, ◌∙◌}
use Rattle.interfaces.specs.declared.interface.Interface.{Interface}
use Rattle.interfaces.specs.Interfaces.{interfaces_from}
use Rattle.interfaces.proofs.FoundInterfaces.{found_all, found_more}
use Rattle.interfaces.proofs.interface.interfaces_from.Goals as goal

pub loop-i-preserved : goal.loop-i-preserved
loop-i-preserved g c =
    let links = c.args.links.now in
    let i = c.loop-i.i in
    ap (λ (items : List Interface). items ++ interfaces_from (drop (i + 1) links)) c.in_ok-push.ensures.items
    ∙ found_more c.loop-i.found.items links i _ c.stub_after-stub.result c.loop-i-test.true c.stub_after-stub.ensures c.loop-i.invariant

pub returns : goal.returns
returns g c = found_all c.loop-i.found.items c.args.links.now c.loop-i.i c.loop-i-test.false c.loop-i.invariant
