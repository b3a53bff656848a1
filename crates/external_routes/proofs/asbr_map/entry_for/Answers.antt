use Rattle.std.proofs.Common.{◌∙◌, ap}
use Rattle.external_routes.specs.steps.Lookup.{entry_at}
use Rattle.external_routes.proofs.Items.{item_found}
use Rattle.external_routes.proofs.asbr_map.entry_for.Goals as goal

pub returns : goal.returns
returns g c =
    item_found c.args.entries.now c.in_ok-index.index.now c.get-2.result c.get-2.ensures.lookup.0 c.get-2.ensures.lookup.1
    ∙ ap (entry_at c.args.entries.now) c.in_ok-index.ensures.value
