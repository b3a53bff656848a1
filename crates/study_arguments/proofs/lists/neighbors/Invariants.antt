use Rattle.std.proofs.Common.{◌≡◌, ◌==◌, length}
use Rattle.std.specs.List.{slice_split}
use Rattle.network_names.specs.Names.{stands_for}
use Rattle.study_arguments.specs.Lists.{each, neighbors}
use Rattle.study_arguments.specs.Values.{router_id}
use Rattle.study_arguments.proofs.EachWord.{prepend}
use Rattle.study_arguments.proofs.lists.neighbors.Given as goal

abbrev pub invariant-loop-part : goal.invariant-loop-part
invariant-loop-part g l =
    neighbors (stands_for l.names) l.word ≡ prepend l.routers.items (each (router_id (stands_for l.names)) (slice_split (λ b. b == 44) l.rest))

abbrev pub decreases-loop-part : goal.decreases-loop-part
decreases-loop-part g l = length l.rest
