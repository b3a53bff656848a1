use Rattle.std.proofs.Common.{sym, ◌∙◌}
use Rattle.external_routes.proofs.Places.{none_between}
use Rattle.external_routes.proofs.place.stands_between.Goals as goal

pub returns-then-is_after : goal.returns-then-is_after
returns-then-is_after g c = λ ahead.
    none_between c.args.net c.args.routes.now c.args.place c.requires (sym c.is_after.ensures ∙ c.if-is_after.true) (sym c.is_ahead.ensures ∙ ahead)
