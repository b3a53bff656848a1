use Rattle.std.proofs.Common.{◌≡◌, length}
use Rattle.edit_script.specs.Words.{words}
use Rattle.network_names.specs.Names.{stands_for}
use Rattle.study_arguments.specs.Lists.{each}
use Rattle.study_arguments.proofs.EachWord.{prepend}
use Rattle.study_arguments.proofs.lists.each_word.Given as goal

abbrev pub invariant-loop-at : goal.invariant-loop-at
invariant-loop-at g l =
    each (g.T.Argument.means (stands_for l.names)) (words l.text)
    ≡ prepend l.values.items (each (g.T.Argument.means (stands_for l.names)) (words l.rest))

abbrev pub decreases-loop-at : goal.decreases-loop-at
decreases-loop-at g l = length (words l.rest)
