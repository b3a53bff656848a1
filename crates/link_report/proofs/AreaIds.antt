-- The areas of a database, one after another.
use Rattle.std.proofs.Common.{◌≡◌, ℕ, ◌+◌, List, [], ◌∷◌, ◌++◌, map, take, Some, sym}
use Rattle.std.specs.List.{slice_get}
use Rattle.std.proofs.lemmas.Option.{get_or_from_slice_get, slice_get_within}
use Rattle.lsa_codec.specs.declared.address.AreaId.{AreaId}
use Rattle.lsdb.specs.Lists.{AreaHead, Lists, areas_of}
use Rattle.area_routes.proofs.AddsLemmas.{map_adds}
use Rattle.area_routes.specs.Attached.{id_of}
use Rattle.link_report.proofs.PushedLemmas.{made_more}

-- one area more
pub area_more : (db : Lists) (i : ℕ) (head : AreaHead) (before next : List AreaId) → slice_get (areas_of db) i ≡ Some head
    → before ≡ map id_of (take i (areas_of db)) → next ≡ before ++ id_of head ∷ [] → next ≡ map id_of (take (i + 1) (areas_of db))
area_more db i head before next here was is =
    made_more (map_adds id_of) (areas_of db) i head before next (slice_get_within (areas_of db) i head here)
    (sym (get_or_from_slice_get (areas_of db) i head head here)) was is
