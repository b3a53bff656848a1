use Rattle.std.proofs.Common.{Option, ◌++◌, ap, ◌∙◌}
use Rattle.json.specs.Value.{value_view}
use Rattle.lsa_codec.specs.declared.address.AreaId.{AreaId}
use Rattle.frr_json.specs.ParsedDocuments.{parsed_array}
use Rattle.frr_json.proofs.ParsedDocuments.{areas_next, areas_end}
use Rattle.frr_json.proofs.parsed_document.with_areas.Goals as goal

pub areas-preserved : goal.areas-preserved
areas-preserved g c =
    areas_next c.areas.parsed.items c.in_ok-parsed.parsed.items _ c.args.table c.args.members.now c.areas.member-index c.member-item.result
    c.areas-test.true c.member-item.is
    (c.in_ok-parsed.ensures
    ∙ ap (λ (area : Option AreaId). c.areas.parsed.items ++ parsed_array c.args.table area (value_view c.member-item.result.1)) c.area_named-area.ensures)
    c.areas.invariant

pub returns : goal.returns
returns g c =
    areas_end c.areas.parsed.items _ c.args.table c.args.members.now c.areas.member-index c.areas-test.false c.areas.invariant
