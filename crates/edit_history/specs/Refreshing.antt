-- The fates of LSAs where the summary-LSAs get the metrics that their originators announce (RFC 2328, 12.4.3).
use Rattle.std.specs.Prelude.{ℕ, Bool, List, Option, Some, None, if◌then◌else◌}
use Rattle.lsa_codec.specs.declared.address.AreaId.{AreaId}
use Rattle.lsa_codec.specs.Areas.{is_backbone}
use Rattle.lsa_codec.specs.Originating.{with_metric}
use Rattle.lsdb.specs.Lists.{Lists}
use Rattle.summary_metrics.specs.Refreshed.{id_of, stale_metric, refreshed_areas}
use Rattle.edit_history.specs.Rules.{Fate, stays, rewritten, Fates}

-- an LSA gets another metric, where it should have another one
abbrev pub with_due : Option ℕ → List ℕ → Fate
with_due None lsa = stays
with_due (Some metric) lsa = rewritten (with_metric metric lsa)

-- the fate of an LSA of an area: it gets the metric that it should have in the database
abbrev pub metric_fate : Lists → AreaId → List ℕ → Fate
metric_fate db area lsa = with_due (stale_metric db area lsa) lsa

-- one pass: the LSAs of the chosen areas get the metrics that they should have in the database; all others
-- stay
abbrev pub pass_fates : (AreaId → Bool) → Lists → Fates
pass_fates chosen db None lsa = stays
pass_fates chosen db (Some head) lsa = if chosen (id_of head) then metric_fate db (id_of head) lsa else stays

-- both passes: the LSAs of the backbone by the database before, those of other areas by the database with the refreshed backbone
abbrev pub refresh_fates : Lists → Fates
refresh_fates db None lsa = stays
refresh_fates db (Some head) lsa =
    if is_backbone (id_of head) then metric_fate db (id_of head) lsa else metric_fate (refreshed_areas is_backbone db) (id_of head) lsa
