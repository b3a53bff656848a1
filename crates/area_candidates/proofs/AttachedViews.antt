-- The views of the areas of a router, one area after another.
use Rattle.std.proofs.Common.{◌≡◌, ℕ, ◌+◌, Bool, true, false, cond, List, [], ◌∷◌, ◌++◌, map, take, Some, sym, ap, ◌∙◌}
use Rattle.std.specs.List.{slice_get}
use Rattle.std.proofs.lemmas.List.{append-nil, map-append}
use Rattle.lsa_codec.specs.declared.address.RouterId.{RouterId}
use Rattle.lsdb.specs.Lists.{AreaHead, Lists, areas_of}
use Rattle.routing_table.proofs.TableLemmas.{among_more, attached_among, joins}
use Rattle.area_candidates.specs.Views.{AreaViewValue, area_view}

module _ (db : Lists) (router : RouterId) (i : ℕ) (area : AreaHead) (here : slice_get (areas_of db) i ≡ Some area) where
  abbrev before : List AreaHead
  before = attached_among db router (take i (areas_of db))

  views_more : (b : Bool) → joins db router area ≡ b
      → map (area_view db router) (attached_among db router (take (i + 1) (areas_of db)))
      ≡ map (area_view db router) before ++ map (area_view db router) (cond b (area ∷ []) [])
  views_more b is =
      ap (map (area_view db router)) (among_more db router i area here ∙ ap (λ (t : Bool). before ++ cond t (area ∷ []) []) is)
      ∙ map-append (area_view db router) before (cond b (area ∷ []) [])

  -- an area that the router is attached to
  pub more_views : (old new : List AreaViewValue) (view : AreaViewValue) → old ≡ map (area_view db router) before → joins db router area ≡ true
      → view ≡ area_view db router area → new ≡ old ++ view ∷ []
      → new ≡ map (area_view db router) (attached_among db router (take (i + 1) (areas_of db)))
  more_views old new view was joined is pushed =
      pushed ∙ ap (λ (l : List AreaViewValue). l ++ view ∷ []) was
      ∙ ap (λ (v : AreaViewValue). map (area_view db router) before ++ v ∷ []) is ∙ sym (views_more true joined)

  -- another one
  pub same_views : (old : List AreaViewValue) → old ≡ map (area_view db router) before → joins db router area ≡ false
      → old ≡ map (area_view db router) (attached_among db router (take (i + 1) (areas_of db)))
  same_views old was apart = was ∙ sym (append-nil (map (area_view db router) before)) ∙ sym (views_more false apart)
