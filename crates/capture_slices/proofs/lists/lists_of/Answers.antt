use Rattle.capture_slices.proofs.GivenLists.{lists_more, no_memory}
use Rattle.capture_slices.proofs.lists.lists_of.Goals as goal

pub returns-in_err-push-clause-fault : goal.returns-in_err-push-clause-fault
returns-in_err-push-clause-fault g c =
    no_memory (λ file. file.bytes.now) c.args.lists.now c.loop-list.list-index _ c.loop-list-test.true (λ file. file.name) c.loop-list.read.items
    c.in_ok-list_of.field-0 c.from_residual-in_err-push.result c.loop-list.invariant c.in_ok-list_of.ensures.list
    c.from_residual-in_err-push.ensures.1

pub loop-list-preserved : goal.loop-list-preserved
loop-list-preserved g c =
    lists_more (λ file. file.bytes.now) c.args.lists.now c.loop-list.list-index _ c.loop-list-test.true c.loop-list.read.items c.push.new.self.items
    c.in_ok-list_of.field-0 c.loop-list.invariant c.in_ok-list_of.ensures.list c.in_ok-push.ensures.items
