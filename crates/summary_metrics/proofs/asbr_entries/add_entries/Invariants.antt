use Rattle.std.proofs.Common.{◌≡◌, ◌++◌, take}
use Rattle.std.specs.List.{filter}
use Rattle.external_routes.specs.Choose.{is_asbr_kind}
use Rattle.summary_metrics.proofs.asbr_entries.add_entries.Given as goal

-- the entries so far
abbrev pub invariant-loop-entry : goal.invariant-loop-entry
invariant-loop-entry g l = l.all ≡ l.fn.all ++ filter (λ e. is_asbr_kind e.kind) (take l.entry-index l.entries)
