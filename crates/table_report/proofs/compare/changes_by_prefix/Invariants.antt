use Rattle.std.proofs.Common.{◌≡◌, length, take}
use Rattle.std.specs.List.{filter_map}
use Rattle.std.specs.String.{string_bytes}
use Rattle.table_report.specs.Comparing.{change_at}
use Rattle.table_report.specs.Texts.{lines_text}
use Rattle.table_report.proofs.compare.changes_by_prefix.Given as goal

-- the lines for the prefixes so far, and how many they are
abbrev pub invariant-loop-net : goal.invariant-loop-net
invariant-loop-net g l =
    (string_bytes l.lines ≡ lines_text (filter_map (change_at l.before l.now) (take l.net-index l.net-items)))
    × (l.count ≡ length (filter_map (change_at l.before l.now) (take l.net-index l.net-items)))
