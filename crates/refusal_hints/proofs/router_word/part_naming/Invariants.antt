use Rattle.std.proofs.Common.{◌≡◌, length}
use Rattle.std.specs.List.{find}
use Rattle.network_names.specs.Names.{stands_for}
use Rattle.study_arguments.specs.Values.{router_id}
use Rattle.refusal_hints.specs.RouterWord.{is_router, parts}
use Rattle.refusal_hints.proofs.router_word.part_naming.Given as goal

-- it is among the parts that are left
abbrev pub invariant-loop-part : goal.invariant-loop-part
invariant-loop-part g l =
    find (λ part. is_router l.router (router_id (stands_for l.names) part)) (parts l.rest)
    ≡ find (λ part. is_router l.router (router_id (stands_for l.names) part)) (parts l.word)

abbrev pub decreases-loop-part : goal.decreases-loop-part
decreases-loop-part g l = length l.rest
