use Rattle.std.proofs.Common.{◌≡◌, ◌++◌, take}
use Rattle.std.specs.Prelude.{flat_map}
use Rattle.study_json.proofs.Arrays.{HaveNumbers, after}
use Rattle.study_json.proofs.array.push_after_commas.Given as goal

abbrev pub invariant-loop-item : goal.invariant-loop-item
invariant-loop-item g l = record {
  pushed : l.text.items ≡ l.initial.text.items ++ flat_map (after g.T.Document.json_as) (take l.item-index l.items);
  numbers : HaveNumbers g.T.Document.json_as (take l.item-index l.items);
}
