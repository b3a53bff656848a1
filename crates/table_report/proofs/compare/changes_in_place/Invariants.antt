use Rattle.std.proofs.Common.{◌≡◌, length, take}
use Rattle.std.specs.List.{filter_map}
use Rattle.std.specs.String.{string_bytes}
use Rattle.best_ways.specs.Routes.{nets}
use Rattle.table_report.specs.Comparing.{change_at}
use Rattle.table_report.specs.Texts.{lines_text}
use Rattle.table_report.proofs.compare.changes_in_place.Given as goal

-- the lines for the prefixes so far, which both have, and how many they are
abbrev pub invariant-loop-index : goal.invariant-loop-index
invariant-loop-index g l =
    (string_bytes l.lines ≡ lines_text (filter_map (change_at l.before l.now) (take l.index (nets l.before))))
    × (l.count ≡ length (filter_map (change_at l.before l.now) (take l.index (nets l.before))))
    × (take l.index (nets l.before) ≡ take l.index (nets l.now))
