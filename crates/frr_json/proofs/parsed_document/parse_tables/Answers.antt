use Rattle.std.proofs.Common.{List, ◌++◌, ap, ◌∙◌}
use Rattle.json.specs.Value.{value_view}
use Rattle.frr_text.specs.declared.ls_type.LsType.TheVariants as types
use Rattle.findings.specs.declared.part.Part.{Part}
use Rattle.frr_json.specs.declared.table.Table.TheVariants as tables
use Rattle.frr_json.specs.ParsedDocuments.{parsed_of}
use Rattle.frr_json.proofs.ParsedDocuments.{types_joined}
use Rattle.frr_json.proofs.parsed_document.parse_tables.Goals as goal

pub returns : goal.returns
returns g c =
    types_joined (value_view c.args.json.now) c.in_ok-parsed.parsed.items c.in_ok-parsed-2.parsed.items c.in_ok-parsed-3.parsed.items
    c.in_ok-parsed-4.parsed.items c.in_ok-parsed-5.parsed.items c.in_ok-parsed-6.parsed.items c.in_ok-parsed-7.parsed.items
    c.in_ok-parsed-8.parsed.items c.in_ok-parsed-9.parsed.items
    (c.in_ok-parsed.ensures ∙ ap (λ (x : List (Part g.row.A.Denot)). x ++ parsed_of (tables.Read types.Router) (value_view c.args.json.now)) c.new.ensures.items)
    c.in_ok-parsed-2.ensures c.in_ok-parsed-3.ensures c.in_ok-parsed-4.ensures c.in_ok-parsed-5.ensures c.in_ok-parsed-6.ensures
    c.in_ok-parsed-7.ensures c.in_ok-parsed-8.ensures c.in_ok-parsed-9.ensures
