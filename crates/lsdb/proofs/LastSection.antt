-- The LSAs of AS scope are the last section of a database, after its areas.
use Rattle.std.proofs.Common.{◌≡◌, true, [], ◌∷◌, ◌++◌, Option, Some, None, refl, sym, ap, subst}
use Rattle.std.specs.Prelude.{All, AllPairs}
use Rattle.std.specs.List.{list_any}
use Rattle.std.proofs.lemmas.List.Elements.{All-nil, All-cons, All-head}
use Rattle.lsdb.specs.Lists.{AreaHead, SectionLsas, Lists, IsBefore, is_as_wide, heads_of}
use Rattle.lsdb.proofs.Middle.{pairs_head, pairs_tail}
use Rattle.lsdb.proofs.AreaText.{IsAfter}

-- a database as its areas, and the LSAs of AS scope
pub record Split (db : Lists) : Type 0 where
  pub areas : Lists
  pub wide : SectionLsas
  pub is : db ≡ areas ++ wide ∷ []
  pub none : wide.area ≡ None
  pub after : All (IsAfter None) (heads_of areas)

-- nothing stands after the LSAs of AS scope
split_none : (s : SectionLsas) (ss : Lists) → s.area ≡ None → AllPairs IsBefore (heads_of (s ∷ ss)) → Split (s ∷ ss)
split_none s [] is order = record { areas = []; wide = s; is = refl; none = is; after = All-nil (IsAfter None) }
split_none s (t ∷ ts) is order =
    let first : IsBefore s.area t.area = All-head (IsBefore s.area) t.area (heads_of ts) (pairs_head IsBefore s.area (heads_of (t ∷ ts)) order) in
    absurd (subst (λ (h : Option AreaHead). IsBefore h t.area) is first)

split_some : (s : SectionLsas) (ss : Lists) (a : AreaHead) → s.area ≡ Some a → Split ss → Split (s ∷ ss)
split_some s ss a is rest = record {
  areas = s ∷ rest.areas;
  wide = rest.wide;
  is = ap (λ (xs : Lists). s ∷ xs) rest.is;
  none = rest.none;
  after = All-cons (IsAfter None) s.area (heads_of rest.areas) (subst (IsAfter None) (sym is) tt) rest.after;
}

split_by : (h : Option AreaHead) (s : SectionLsas) (ss : Lists) → s.area ≡ h
    → AllPairs IsBefore (heads_of (s ∷ ss)) → (list_any is_as_wide (heads_of ss) ≡ true → Split ss)
    → list_any is_as_wide (h ∷ heads_of ss) ≡ true → Split (s ∷ ss)
split_by None s ss is order rest e = split_none s ss is order
split_by (Some a) s ss is order rest e = split_some s ss a is (rest e)

pub split : (db : Lists) → AllPairs IsBefore (heads_of db) → list_any is_as_wide (heads_of db) ≡ true → Split db
split [] order e = absurd cc
split (s ∷ ss) order e = split_by s.area s ss refl order (split ss (pairs_tail IsBefore s.area (heads_of ss) order)) e
