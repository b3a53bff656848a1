use Rattle.std.proofs.Common.{◌≡◌, take}
use Rattle.lsdb.specs.steps.View.{slots_of}
use Rattle.lsdb.proofs.copy.copy_of_sections.Given as goal

abbrev pub invariant-loop-section : goal.invariant-loop-section
invariant-loop-section g l = slots_of l.copy.items ≡ slots_of (take l.section-index l.sections)
