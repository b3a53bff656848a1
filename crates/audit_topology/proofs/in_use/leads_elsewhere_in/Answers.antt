use Rattle.std.proofs.Common.{◌∙◌, ap}
use Rattle.std.specs.List.{list_any}
use Rattle.audit_areas.specs.Areas.{is_other}
use Rattle.audit_topology.proofs.in_use.leads_elsewhere_in.Goals as goal

pub returns : goal.returns
returns g c =
    c.has_other_end.ensures ∙ ap (list_any (is_other c.args.network)) c.deref.ensures.value ∙ c.in_ok-ends.ensures (is_other c.args.network)
