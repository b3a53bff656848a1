use Rattle.std.proofs.Common.{◌≡◌, ◌++◌, take}
use Rattle.std.specs.List.{flat_map}
use Rattle.lsdb.specs.Slots.{lists_of}
use Rattle.lsdb.specs.Text.{section_text}
use Rattle.lsdb.proofs.Written.{counted}
use Rattle.lsdb.proofs.database.Database.put_sections.Given as goal

abbrev pub invariant-loop-section : goal.invariant-loop-section
invariant-loop-section g l = l.out.items ≡ counted l.fn.out.items (lists_of l.self) ++ flat_map section_text (take l.section-index (lists_of l.self))
