-- All candidates for a router's route to a prefix, each with the first rule that takes it out, or the one by which it is used
-- (RFC 2328, 16.1 to 16.4.1).
use Rattle.std.specs.Prelude.{◌||◌, List, ◌++◌}
use Rattle.lsa_codec.specs.Prefix.{Net}
use Rattle.route_candidates.specs.declared.candidate.Candidate.{Candidate}
use Rattle.area_candidates.specs.declared.draft.Draft.{Draft}
use Rattle.area_candidates.specs.Between.{inter_drafts}
use Rattle.route_candidates.specs.Decided.{decided, has_left}
use Rattle.route_candidates.specs.Outside.{external_drafts}
use Rattle.area_candidates.specs.Views.{AreaViewValue, area_views}
use Rattle.route_candidates.specs.RouterViews.{RouterViewValue}
use Rattle.area_candidates.specs.Within.{intra_drafts}

module _ (view : RouterViewValue) (net : Net) where
  abbrev pub views : List AreaViewValue
  views = area_views view.db view.router

  -- within areas
  abbrev pub within : List Draft
  within = intra_drafts views net

  -- between areas, where no candidate within an area is used
  abbrev pub between : List Draft
  between = inter_drafts (has_left within) views net

  -- outside the AS, where no candidate within it is used
  abbrev pub outside : List Draft
  outside = external_drafts (has_left within || has_left between) view net

  -- those within areas, those between areas, and those outside the AS
  abbrev pub candidates : List Candidate
  candidates = decided within ++ decided between ++ decided outside
