use Rattle.std.proofs.Common.{◌∙◌}
use Rattle.summary_metrics.proofs.inside.Inside.of.Goals as goal

pub returns : goal.returns
returns g c = record {
  routes = c.routes.view_is ∙ c.in_ok-routes.ensures.routes;
  entries = c.in_ok-asbr_entries.ensures;
  borders = c.in_ok-of.ensures;
}
