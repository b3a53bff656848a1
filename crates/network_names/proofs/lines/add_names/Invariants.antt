use Rattle.std.proofs.Common.{List, length}
use Rattle.network_names.specs.Words.{words}
use Rattle.network_names.specs.Names.{AreNames, Named}
use Rattle.network_names.proofs.FileSteps.{NamesLeft}
use Rattle.network_names.proofs.lines.add_names.Given as goal

abbrev pub invariant-loop-name : goal.invariant-loop-name
invariant-loop-name g l =
    (all : List Named) → AreNames all l.initial.names → NamesLeft l.line l.address all (words l.text) (words l.rest) l.names

abbrev pub decreases-loop-name : goal.decreases-loop-name
decreases-loop-name g l = length (words l.rest)
