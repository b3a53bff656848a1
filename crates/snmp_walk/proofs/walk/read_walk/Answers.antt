use Rattle.std.proofs.Common.{List, ◌++◌, ap, subst, rules, ◌∙◌}
use Rattle.std.specs.Prelude.{map}
use Rattle.std.specs.List.{filter_map}
use Rattle.findings.specs.Contents.{content_of}
use Rattle.snmp_walk.specs.declared.parsed_object.ParsedObject.{ParsedObject}
use Rattle.snmp_walk.specs.Counts.{AreFewer, fewer_part}
use Rattle.snmp_walk.specs.Missing.{AreMissing, bytes_row, column_row, missing_row}
use Rattle.snmp_walk.specs.Sorting.{part_of}
use Rattle.snmp_walk.proofs.walk.read_walk.Goals as goal

pub returns-clause-content : goal.returns-clause-content
returns-clause-content g c =
    let rows = c.in_ok-missing.missing.items in
    let fewer = c.in_ok-fewer.fewer.items in
    record {
      walk = search rules;
      rows = rows;
      fewer = fewer;
      missing = subst (λ (all : List (ParsedObject g.row.A.Denot)). AreMissing (filter_map column_row all) (filter_map bytes_row all) rows)
          (c.deref-2.ensures.value ∙ c.in_ok-parsed.ensures) c.in_ok-missing.ensures;
      counted = subst (λ (all : List (ParsedObject g.row.A.Denot)). AreFewer all fewer) (c.deref-3.ensures.value ∙ c.in_ok-parsed.ensures)
          c.in_ok-fewer.ensures;
      whole = c.in_ok-sorted.ensures
          ∙ ap content_of (c.in_ok-put_fewer.ensures
          ∙ (λ i. (c.in_ok-put_missing.ensures
          ∙ (λ j. (c.in_ok-parts.ensures ∙ ap (filter_map part_of) c.in_ok-parsed.ensures) j ++ map missing_row (c.deref-4.ensures.value j))) i
          ++ map fewer_part (c.deref-5.ensures.value i)));
    }
