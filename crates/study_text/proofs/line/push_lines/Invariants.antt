use Rattle.std.proofs.Common.{◌≡◌, ◌++◌, take}
use Rattle.network_names.specs.Names.{called}
use Rattle.study_text.specs.Lists.{lines_of}
use Rattle.study_text.proofs.line.push_lines.Given as goal

-- the lines of the items so far were added
abbrev pub invariant-loop-item : goal.invariant-loop-item
invariant-loop-item g l =
    l.text.items ≡ l.initial.text.items ++ lines_of (g.T.Line.line_as (called l.names)) (take l.item-index l.items)
