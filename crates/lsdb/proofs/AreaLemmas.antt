-- For callers: an area by its number is the section of its name.
use Rattle.std.proofs.Common.{◌≡◌, ℕ, zero, suc, ◌<◌, true, false, cond, eqb, List, [], ◌∷◌, Option, Some, None, refl, sym, ap, ◌∙◌, subst, arith}
use Rattle.std.specs.Prelude.{All, AllPairs, IsSome, slice_get}
use Rattle.std.specs.List.{cons_option, find}
use Rattle.std.proofs.lemmas.Bool.{eq-eqb, ne_eqb}
use Rattle.std.proofs.lemmas.List.Elements.{All-head, All-tail}
use Rattle.lsdb.specs.declared.section.Section.TheVariants.{Area}
use Rattle.lsdb.specs.Lists.{AreaHead, SectionLsas, Lists, IsBefore, IsDatabase, areas_of, has_id, heads_of, is_section}
use Rattle.lsdb.specs.Slots.{Slots, item_at, lists_of, IsNamed}
use Rattle.lsdb.proofs.Middle.{pairs_head, pairs_tail}

-- the section of an area, by its number and by its name
record HasArea (db : Lists) (i : ℕ) (head : AreaHead) : Type 0 where
  section : SectionLsas
  is : section.area ≡ Some head
  at : item_at db i ≡ Some section
  first : find (is_section (Area (record { 0 = head.id }))) db ≡ Some section

head_before : (a : Option AreaHead) (db : Lists) (i : ℕ) (s : SectionLsas) → item_at db i ≡ Some s → All (IsBefore a) (heads_of db) → IsBefore a s.area
head_before a [] i s at h = absurd cc
head_before a (t ∷ ts) zero s at h =
    let same : t ≡ s = cc in
    subst (λ (x : SectionLsas). IsBefore a x.area) same (All-head (IsBefore a) t.area (heads_of ts) h)
head_before a (t ∷ ts) (suc i) s at h = head_before a ts i s at (All-tail (IsBefore a) t.area (heads_of ts) h)

apart : (a b : AreaHead) (o : Option AreaHead) → o ≡ Some b → IsBefore (Some a) o → eqb a.id b.id ≡ false
apart a b o is before =
    let less : a.id < b.id = subst (IsBefore (Some a)) is before in
    ne_eqb a.id b.id (λ e. absurd (omega arith))

has_area : (db : Lists) (i : ℕ) (head : AreaHead) → AllPairs IsBefore (heads_of db) → slice_get (areas_of db) i ≡ Some head → HasArea db i head
has_area [] i head pairs at = absurd cc
has_area (s ∷ db) i head pairs at = by s.area refl i at (λ j there. has_area db j head (pairs_tail IsBefore s.area (heads_of db) pairs) there)
  where
    -- nothing stands after the LSAs of AS scope
    last : (db : Lists) → All (IsBefore None) (heads_of db) → areas_of db ≡ []
    last [] h = refl
    last (t ∷ ts) h = absurd (All-head (IsBefore None) t.area (heads_of ts) h)

    by : (area : Option AreaHead) → s.area ≡ area → (i : ℕ) → slice_get (cons_option area (areas_of db)) i ≡ Some head
        → ((j : ℕ) → slice_get (areas_of db) j ≡ Some head → HasArea db j head) → HasArea (s ∷ db) i head
    by None is i at later =
        let none : areas_of db ≡ [] = last db (subst (λ (o : Option AreaHead). All (IsBefore o) (heads_of db)) is (pairs_head IsBefore s.area (heads_of db) pairs)) in
        let found : None ≡ Some head = sym (ap (λ (areas : List AreaHead). slice_get areas i) none) ∙ at in
        absurd cc
    by (Some a) is zero at later =
        let same : a ≡ head = cc in
        let named : has_id head.id s.area ≡ true = ap (has_id head.id) is ∙ eq-eqb a.id head.id (ap (λ (x : AreaHead). x.id) same) in
        record {
          section = s;
          is = is ∙ ap Some same;
          at = refl;
          first = ap (λ b. cond b (Some s) (find (is_section (Area (record { 0 = head.id }))) db)) named;
        }
    by (Some a) is (suc i) at later =
        let rest = later i at in
        let before = head_before s.area db i rest.section rest.at (pairs_head IsBefore s.area (heads_of db) pairs) in
        let other : has_id head.id s.area ≡ false =
        ap (has_id head.id) is ∙ apart a head rest.section.area rest.is (subst (λ (o : Option AreaHead). IsBefore o rest.section.area) is before) in
        record {
          section = rest.section;
          is = rest.is;
          at = rest.at;
          first = ap (λ b. cond b (Some s) (find (is_section (Area (record { 0 = head.id }))) db)) other ∙ rest.first;
        }

some_is : {X : Type 0} (o : Option X) (x : X) → o ≡ Some x → IsSome o
some_is None x e = absurd cc
some_is (Some y) x e = refl

pub area_named : (d : Slots) (i : ℕ) (head : AreaHead) → IsDatabase (lists_of d) → slice_get (areas_of (lists_of d)) i ≡ Some head
    → IsNamed d (Area (record { 0 = head.id })) i
area_named d i head sound at =
    let has = has_area (lists_of d) i head sound.heads.order at in
    record { same = has.at ∙ sym has.first; exists = some_is (item_at (lists_of d) i) has.section has.at }
