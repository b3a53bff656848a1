use Rattle.std.proofs.Common.{◌≡◌, length}
use Rattle.std.specs.List.{find, flat_map}
use Rattle.edit_script.specs.Words.{words}
use Rattle.network_names.specs.Names.{stands_for}
use Rattle.study_arguments.specs.Values.{router_id}
use Rattle.refusal_hints.specs.RouterWord.{is_router, parts}
use Rattle.refusal_hints.proofs.router_word.naming.Given as goal

-- it is among the words that are left
abbrev pub invariant-loop-at : goal.invariant-loop-at
invariant-loop-at g l =
    find (λ part. is_router l.router (router_id (stands_for l.names) part)) (flat_map parts (words l.rest))
    ≡ find (λ part. is_router l.router (router_id (stands_for l.names) part)) (flat_map parts (words l.text))

abbrev pub decreases-loop-at : goal.decreases-loop-at
decreases-loop-at g l = length (words l.rest)
