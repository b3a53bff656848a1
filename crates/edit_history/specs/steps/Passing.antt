-- The areas that a pass refreshes.
use Rattle.std.specs.Prelude.{Bool}
use Rattle.lsa_codec.specs.declared.address.AreaId.{AreaId}
use Rattle.lsa_codec.specs.Areas.{is_backbone}
use Rattle.summary_metrics.specs.Refreshed.{is_not_backbone}
use Rattle.edit_history.specs.declared.refreshing.Pass.{Pass}
use Rattle.edit_history.specs.declared.refreshing.Pass.TheVariants.{Backbone, OtherAreas}

abbrev pub chosen : Pass → AreaId → Bool
chosen Backbone area = is_backbone area
chosen OtherAreas area = is_not_backbone area
