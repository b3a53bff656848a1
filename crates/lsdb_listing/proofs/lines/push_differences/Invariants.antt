use Rattle.std.proofs.Common.{◌≡◌, ◌++◌, take}
use Rattle.std.specs.Prelude.{flat_map}
use Rattle.std.specs.String.{string_bytes}
use Rattle.lsdb_listing.specs.Texts.{difference_line}
use Rattle.lsdb_listing.proofs.lines.push_differences.Given as goal

abbrev pub invariant-loop-difference : goal.invariant-loop-difference
invariant-loop-difference g l =
    string_bytes l.text ≡ string_bytes l.initial.text ++ flat_map (difference_line l.name) (take l.difference-index l.found)
