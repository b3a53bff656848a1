use Rattle.std.proofs.Common.{◌≡◌, ◌++◌, take}
use Rattle.std.specs.Prelude.{flat_map, codes, IfSome}
use Rattle.std.specs.String.{string_bytes}
use Rattle.table_report.specs.Texts.{line_of}
use Rattle.table_report.specs.steps.Parts.{ways_text}
use Rattle.table_report.proofs.text.push_lines.Given as goal

abbrev pub invariant-loop-route : goal.invariant-loop-route
invariant-loop-route g l = record {
  lines : string_bytes l.text ≡ string_bytes l.initial.text ++ flat_map (λ r. line_of r ++ codes "\n") (take l.route-index l.routes);
  ways : IfSome l.before (λ r. string_bytes l.ways ≡ ways_text r.now ++ codes "\n");
}
