use Rattle.std.proofs.Common.{◌≡◌, ◌++◌, take}
use Rattle.std.specs.List.{flat_map}
use Rattle.lsa_remaking.specs.Relinking.{changed_text}
use Rattle.lsa_remaking.proofs.relinking.changed_body.Given as goal

abbrev pub invariant-loop-changed : goal.invariant-loop-changed
invariant-loop-changed g l = l.body.items ≡ take 24 l.lsa ++ flat_map (changed_text l.lsa) (take l.changed-index l.links)
