use Rattle.std.proofs.Common.{◌≡◌, ◌-◌, arith}
use Rattle.table_changes.specs.Changes.{unchanged}
use Rattle.table_changes.proofs.Counted.{are_all, number_of_all}
use Rattle.table_changes.proofs.table_changes.TableChanges.between.Goals as goal

pub overflow_sub-unchanged : goal.overflow_sub-unchanged
overflow_sub-unchanged g c =
    let all =
    number_of_all c.args.rerouted.now c.args.before.now c.args.now.now c.in_ok-nets.nets.items c.as_slice.result.now
    c.in_ok-changes.changes.items c.in_ok-nets.ensures c.as_slice.ensures.value c.in_ok-changes.ensures in
    omega (arith, c.len.ensures, c.len-2.ensures, c.in_ok-nets.nets.ok.0, c.in_ok-changes.changes.ok.0, all)

pub returns : goal.returns
returns g c =
    let rerouted = c.args.rerouted.now in
    let before = c.args.before.now in
    let now = c.args.now.now in
    let nets = c.in_ok-nets.nets in
    let found = c.in_ok-changes.changes in
    let all =
    number_of_all rerouted before now nets.items c.as_slice.result.now found.items c.in_ok-nets.ensures c.as_slice.ensures.value
    c.in_ok-changes.ensures in
    let number : c.len.result - c.len-2.result ≡ unchanged rerouted before now =
    omega (arith, c.len.ensures, c.len-2.ensures, nets.ok.0, found.ok.0, all) in
    let listed =
    are_all rerouted before now nets.items c.as_slice.result.now found.items c.in_ok-nets.ensures c.as_slice.ensures.value c.in_ok-changes.ensures in
    λ i. record { changes = listed i; unchanged = number i }
