-- The areas of a database, one after another.
use Rattle.std.proofs.Common.{◌≡◌, ℕ, ◌+◌, ◌≤◌, List, [], ◌∷◌, ◌++◌, length, map, take, Option, Some, sym, subst}
use Rattle.std.specs.List.{slice_get}
use Rattle.std.proofs.lemmas.Option.{get_or_from_slice_get, slice_get_within}
use Rattle.lsdb.specs.Lists.{AreaHead, Lists, areas_of}
use Rattle.area_routes.proofs.AddsLemmas.{map_adds}
use Rattle.link_report.proofs.PushedLemmas.{made_all, made_more}
use Rattle.audit_lsas.specs.declared.scope.AreaScope.{AreaScope}
use Rattle.audit_lsas.specs.Found.{some_scope}

-- one area more
pub scope_more : (db : Lists) (i : ℕ) (head : AreaHead) (before next : List (Option AreaScope)) → slice_get (areas_of db) i ≡ Some head
    → before ≡ map some_scope (take i (areas_of db)) → next ≡ before ++ some_scope head ∷ []
    → next ≡ map some_scope (take (i + 1) (areas_of db))
scope_more db i head before next here was is =
    made_more (map_adds some_scope) (areas_of db) i head before next (slice_get_within (areas_of db) i head here)
    (sym (get_or_from_slice_get (areas_of db) i head head here)) was is

-- all areas
pub scopes_all : (db : Lists) (i count : ℕ) (found : List (Option AreaScope)) → count ≤ i → count ≡ length (areas_of db)
    → found ≡ map some_scope (take i (areas_of db)) → found ≡ map some_scope (areas_of db)
scopes_all db i count found past all was = made_all (map_adds some_scope) (areas_of db) i found (subst (λ (n : ℕ). n ≤ i) all past) was
