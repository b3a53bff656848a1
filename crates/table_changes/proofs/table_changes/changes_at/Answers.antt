use Rattle.std.proofs.Common.{◌≡◌, ◌++◌, [], take, ap, ◌∙◌}
use Rattle.std.specs.List.{cons_option, filter_map}
use Rattle.std.specs.Option.{option_copied, option_map}
use Rattle.table_changes.specs.Changes.{change_at, change_for, change_of, with_net}
use Rattle.router_entries.specs.Entries.{entry_for}
use Rattle.table_changes.proofs.Nets.{pushed}
use Rattle.table_changes.proofs.table_changes.changes_at.Goals as goal

pub loop-net-preserved : goal.loop-net-preserved
loop-net-preserved g c =
    let rerouted = c.args.rerouted.now in
    let before = c.args.before.now in
    let now = c.args.now.now in
    let nets = c.args.nets.now in
    let i = c.loop-net.net-index in
    let net = c.net-item.result in
    let had : c.entry_for-had.result ≡ entry_for before net =
    c.entry_for-had.ensures.entry ∙ ap (λ e. entry_for e net) c.loop-net.invariant.earlier in
    let has : c.entry_for-has.result ≡ entry_for now net =
    c.entry_for-has.ensures.entry ∙ ap (λ e. entry_for e net) c.loop-net.invariant.present in
    let change : c.change_of.result ≡ change_for rerouted before now net =
    c.change_of.ensures ∙ ap (λ o. change_of rerouted o (option_copied c.as_ref-in-loop-net.result)) (c.as_ref.ensures.value ∙ had)
    ∙ ap (λ o. change_of rerouted (entry_for before net) o) (c.as_ref-in-loop-net.ensures.value ∙ has) in
    record {
      changes =
          c.in_ok-push_change.ensures
          ∙ ap (λ l. l ++ cons_option (option_map (with_net net) c.change_of.result) []) c.loop-net.invariant.changes
          ∙ ap (λ o. filter_map (change_at rerouted before now) (take i nets) ++ cons_option (option_map (with_net net) o) []) change
          ∙ pushed (change_at rerouted before now) nets i net c.loop-net-test.true c.net-item.is;
      earlier = c.entry_for-had.ensures.same ∙ c.loop-net.invariant.earlier;
      present = c.entry_for-has.ensures.same ∙ c.loop-net.invariant.present;
    }
