use Rattle.std.proofs.Common.{◌≡◌, ◌∷◌, [], ◌++◌, min, length, take}
use Rattle.std.specs.Int.{w16, to_be_bytes}
use Rattle.std.specs.List.{flat_map}
use Rattle.test_support.specs.Links.{link_bytes}
use Rattle.test_support.proofs.list.router_body.Given as goal

abbrev pub invariant-loop-link : goal.invariant-loop-link
invariant-loop-link l =
    l.body.items ≡ (l.flags ∷ 0 ∷ []) ++ to_be_bytes w16 (min (length l.links) 65535) ++ flat_map link_bytes (take l.link-index l.links)
