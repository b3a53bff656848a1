use Rattle.std.proofs.Common.{◌≡◌, ◌≤◌, List, ◌∷◌, length}
use Rattle.std.specs.Prelude.{reverse}
use Rattle.lsa_codec.specs.declared.address.RouterId.{RouterId}
use Rattle.microloops.specs.steps.Groups.{work}
use Rattle.microloops.proofs.Joining.{IsClosing}
use Rattle.microloops.proofs.Members.{state}
use Rattle.microloops.proofs.search.Search.close.Given as goal

abbrev pub invariant-groups : goal.invariant-groups
invariant-groups g l = record {
  closing : (next : RouterId → List RouterId)
      → IsClosing next l.target l.initial.last (state l.initial.self-inside.unseen l.initial.self-inside.on_path l.initial.self-inside.path.items l.initial.self-inside.loops.entries)
      → IsClosing next l.target l.last (state l.self-inside.unseen l.self-inside.on_path l.self-inside.path.items l.self-inside.loops.entries);
  less : work (l.last ∷ reverse l.self-inside.path.items) ≤ work (l.initial.last ∷ reverse l.initial.self-inside.path.items);
  unseen : l.self-inside.unseen ≡ l.initial.self-inside.unseen;
}

abbrev pub decreases-groups : goal.decreases-groups
decreases-groups g l = length l.self-inside.path.items
