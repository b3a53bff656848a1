use Rattle.std.proofs.Common.{◌∙◌, ap}
use Rattle.audit_areas.specs.Areas.{routers_among}
use Rattle.audit_areas.proofs.area.AuditedArea.of.Goals as goal

pub invariant_of-result : goal.invariant_of-result
invariant_of-result g c = record {
  graph_of = c.in-Ok.ensures.graph;
  routers_are = c.in_ok-routers.ensures ∙ ap routers_among c.in-Ok.ensures.graph.vertices;
}
