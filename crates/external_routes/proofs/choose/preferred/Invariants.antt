use Rattle.std.proofs.Common.{◌≡◌, take}
use Rattle.std.specs.Option.{option_copied}
use Rattle.external_routes.specs.Choose.{preferred}
use Rattle.external_routes.proofs.choose.preferred.Given as goal

abbrev pub invariant-loop-entry : goal.invariant-loop-entry
invariant-loop-entry g l = option_copied l.best ≡ preferred (take l.entry-index l.entries) l.asbr
