use Rattle.std.proofs.Common.{◌≡◌, ◌++◌, take}
use Rattle.std.specs.Prelude.{flat_map}
use Rattle.network_names.specs.Names.{called}
use Rattle.study_text.proofs.Joined.{after}
use Rattle.study_text.proofs.list.push_more.Given as goal

abbrev pub invariant-loop-item : goal.invariant-loop-item
invariant-loop-item g l =
    l.text.items ≡ l.initial.text.items ++ flat_map (after (g.T.Shown.shown_as (called l.names)) l.mark) (take l.item-index l.items)
