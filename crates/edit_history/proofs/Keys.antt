-- LSAs by their keys, and sections by their names.
use Rattle.std.proofs.Common.{◌≡◌, ◌≢◌, ℕ, Bool, true, false, List, [], ◌∷◌, ◌++◌, map, Option, Some, None, refl, sym, ap, ◌∙◌, subst, arith, cond}
use Rattle.std.specs.Prelude.{All, AllPairs}
use Rattle.std.specs.List.{find}
use Rattle.std.proofs.lemmas.Bool.{eqb-true, ne_eqb}
use Rattle.lsa_codec.specs.declared.address.AreaId.{AreaId}
use Rattle.lsa_codec.specs.declared.key.Key.{Key}
use Rattle.lsa_codec.specs.Key.{key_of}
use Rattle.lsdb.specs.declared.section.Section.{Section}
use Rattle.lsdb.specs.declared.section.Section.TheVariants.{Area, AsWide}
use Rattle.lsdb.specs.Lists.{AreaHead, SectionLsas, Lists, has_key, is_head_of, IsBefore}
use Rattle.lsdb.proofs.KeyLemmas.{other_key}
use Rattle.lsdb.proofs.ListLemmas.{pairs_before, pairs_after, map_mid, all_map}
use Rattle.edit_history.specs.Rules.{section_name}

-- what was found passes
pub found_passes : {X : Type 0} (p : X → Bool) (xs : List X) (x : X) → find p xs ≡ Some x → p x ≡ true
found_passes p [] x e = absurd cc
found_passes p (y ∷ ys) x e = by_test (p y) refl (found_passes p ys x) e where
  by_test : (b : Bool) → p y ≡ b → (find p ys ≡ Some x → p x ≡ true) → cond b (Some y) (find p ys) ≡ Some x → p x ≡ true
  by_test true is more e = let same : y ≡ x = cc in ap p (sym same) ∙ is
  by_test false is more e = more e

-- ---- the only LSA of a key, the only section of a name

-- no LSA before it or after it has its key
pub record IsOnly (p : List ℕ → Bool) (front back : List (List ℕ)) : Type 0 where
  pub before : All (λ lsa. p lsa ≡ false) front
  pub after : All (λ lsa. p lsa ≡ false) back

each : {X : Type 0} (P Q : X → Type 0) (xs : List X) → ((x : X) → P x → Q x) → All P xs → All Q xs
each P Q xs f h k d lt = f _ (h k d lt)

pub only_key : (key : Key) (front back : List (List ℕ)) (lsa : List ℕ) → AllPairs (λ a b. a ≢ b) (map key_of (front ++ lsa ∷ back)) → key_of lsa ≡ key
    → IsOnly (has_key key) front back
only_key key front back lsa distinct is =
    let apart : AllPairs (λ a b. a ≢ b) (map key_of front ++ key_of lsa ∷ map key_of back) = subst (AllPairs (λ a b. a ≢ b))
    (map_mid key_of front back lsa) distinct in
    let before = all_map (λ k. k ≢ key_of lsa) key_of front (pairs_before (λ a b. a ≢ b) (map key_of front) (map key_of back) (key_of lsa) apart) in
    let after = all_map (λ k. key_of lsa ≢ k) key_of back (pairs_after (λ a b. a ≢ b) (map key_of front) (map key_of back) (key_of lsa) apart) in
    record {
      before = each (λ x. key_of x ≢ key_of lsa) (λ x. has_key key x ≡ false) front (λ x ne. other_key key x (λ e. ne (e ∙ sym is))) before;
      after = each (λ x. key_of lsa ≢ key_of x) (λ x. has_key key x ≡ false) back (λ x ne. other_key key x (λ e. ne (is ∙ sym e))) after;
    }

pub head_before : (name : Section) (a b : Option AreaHead) → is_head_of name b ≡ true → IsBefore a b → is_head_of name a ≡ false
head_before name None b has before = absurd before
head_before AsWide (Some a) b has before = refl
head_before (Area id) (Some a) None has before = absurd cc
head_before (Area id) (Some a) (Some b) has before = let same : b.id ≡ id.0 = eqb-true _ _ has in
    ne_eqb a.id id.0 (λ e. omega (arith, e, same, before))

pub head_after : (name : Section) (a b : Option AreaHead) → is_head_of name a ≡ true → IsBefore a b → is_head_of name b ≡ false
head_after name None b has before = absurd before
head_after AsWide (Some a) b has before = absurd cc
head_after (Area id) (Some a) None has before = refl
head_after (Area id) (Some a) (Some b) has before = let same : a.id ≡ id.0 = eqb-true _ _ has in
    ne_eqb b.id id.0 (λ e. omega (arith, e, same, before))

abbrev pub head_in : SectionLsas → Option AreaHead
head_in s = s.area

-- no section before it or after it has its name
pub record IsOnlySection (name : Section) (low high : Lists) : Type 0 where
  pub below : All (λ (s : SectionLsas). is_head_of name s.area ≡ false) low
  pub above : All (λ (s : SectionLsas). is_head_of name s.area ≡ false) high

pub only_section : (name : Section) (low high : Lists) (s : SectionLsas) → AllPairs IsBefore (map head_in (low ++ s ∷ high))
    → is_head_of name s.area ≡ true → IsOnlySection name low high
only_section name low high s order has =
    let apart : AllPairs IsBefore (map head_in low ++ s.area ∷ map head_in high) = subst (AllPairs IsBefore) (map_mid head_in low high s) order in
    let before = all_map (λ a. IsBefore a s.area) head_in low (pairs_before IsBefore (map head_in low) (map head_in high) s.area apart) in
    let after = all_map (λ a. IsBefore s.area a) head_in high (pairs_after IsBefore (map head_in low) (map head_in high) s.area apart) in
    record {
      below = each (λ (t : SectionLsas). IsBefore t.area s.area) (λ (t : SectionLsas). is_head_of name t.area ≡ false) low
          (λ t b. head_before name t.area s.area has b) before;
      above = each (λ (t : SectionLsas). IsBefore s.area t.area) (λ (t : SectionLsas). is_head_of name t.area ≡ false) high
          (λ t b. head_after name s.area t.area has b) after;
    }

-- a section of that name is named so
pub name_is : (name : Section) (head : Option AreaHead) → is_head_of name head ≡ true → name ≡ section_name head
name_is AsWide None h = refl
name_is AsWide (Some head) h = absurd cc
name_is (Area area) None h = absurd cc
name_is (Area area) (Some head) h = ap (λ (i : ℕ). let id : AreaId = record { 0 = i } in let s : Section = Area id in s) (sym (eqb-true _ _ h))
