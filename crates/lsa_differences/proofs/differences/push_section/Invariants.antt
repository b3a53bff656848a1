use Rattle.std.proofs.Common.{◌≡◌, ◌++◌, take}
use Rattle.std.specs.List.{flat_map}
use Rattle.lsdb.specs.Slots.{lists_of}
use Rattle.lsa_differences.specs.Differences.{area_of, live_of, lsa_in, lsa_lines}
use Rattle.lsa_differences.proofs.differences.push_section.Given as goal

-- the LSAs of the keys so far
abbrev pub invariant-loop-key : goal.invariant-loop-key
invariant-loop-key g l =
    let before = live_of (lists_of l.before) in
    let now = live_of (lists_of l.now) in
    l.lines.items
    ≡ l.initial.lines.items
    ++ flat_map (λ key. lsa_lines (area_of l.section) (lsa_in l.section before key) (lsa_in l.section now key)) (take l.key-index l.key-items)
