use Rattle.std.proofs.Common.{◌≡◌, ◌++◌, take}
use Rattle.std.specs.Prelude.{flat_map}
use Rattle.std.specs.String.{string_bytes}
use Rattle.table_report.specs.Texts.{table_text}
use Rattle.branches.proofs.reply.push_tables.Given as goal

-- the text has the tables so far after what was there before the first
abbrev pub invariant-loop-table : goal.invariant-loop-table
invariant-loop-table g l = string_bytes l.text ≡ string_bytes l.initial.text ++ flat_map table_text (take l.table-index l.tables.items)
