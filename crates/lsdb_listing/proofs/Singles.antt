-- The derived order of differences is their order by numbers, so that a set has each of them once.
use Rattle.std.proofs.Common.{◌≡◌, Bool, List, [], ◌∷◌, refl, sym, ap, ◌∙◌}
use Rattle.std.specs.BTreeSet.{BTreeSet, IsFromIterResult}
use Rattle.std.specs.List.{list_any, AllByRecursion}
use Rattle.std.specs.List.Sorted.{IsStrictlySortedBy}
use Rattle.std.specs.Ordering.{eq_by_cmp, is_eq}
use Rattle.std.specs.Prelude.{◌||◌}
use Rattle.std.specs.declared.cmp.Ordering.{Ordering}
use Rattle.std.specs.declared.cmp.Ordering.TheVariants.{Less}
use Rattle.lsa_codec.specs.declared.key.Key.{Key}
use Rattle.lsa_instances.specs.declared.place.Scope.{Scope}
use Rattle.lsa_instances.specs.declared.place.Scope.TheVariants.{Area, AsWide}
use Rattle.lsdb_listing.specs.contracts.difference.DifferenceOrd.TheImpl as derived
use Rattle.lsdb_listing.specs.declared.difference.Change.{Change}
use Rattle.lsdb_listing.specs.declared.difference.Change.TheVariants.{Missing, Newer, Older}
use Rattle.lsdb_listing.specs.declared.difference.Difference.{Difference}
use Rattle.lsdb_listing.specs.Once.{AreOnce, difference_cmp}

abbrev made : Change → Scope → Key → Difference
made change scope key = record { change = change; place = record { scope = scope; key = key } }

same : (c d : Change) (s t : Scope) (k l : Key) → derived.cmp-value.it (made c s k) (made d t l) ≡ difference_cmp (made c s k) (made d t l)
same Missing Missing (Area a) (Area b) k l = refl
same Missing Missing (Area a) AsWide k l = refl
same Missing Missing AsWide (Area b) k l = refl
same Missing Missing AsWide AsWide k l = refl
same Missing Newer s t k l = refl
same Missing Older s t k l = refl
same Newer Missing s t k l = refl
same Newer Newer (Area a) (Area b) k l = refl
same Newer Newer (Area a) AsWide k l = refl
same Newer Newer AsWide (Area b) k l = refl
same Newer Newer AsWide AsWide k l = refl
same Newer Older s t k l = refl
same Older Missing s t k l = refl
same Older Newer s t k l = refl
same Older Older (Area a) (Area b) k l = refl
same Older Older (Area a) AsWide k l = refl
same Older Older AsWide (Area b) k l = refl
same Older Older AsWide AsWide k l = refl

same_order : (a b : Difference) → derived.cmp-value.it a b ≡ difference_cmp a b
same_order a b = same a.change b.change a.place.scope b.place.scope a.place.key b.place.key

any_same : (d : Difference) (xs : List Difference) → list_any (eq_by_cmp derived.cmp-value.it d) xs ≡ list_any (eq_by_cmp difference_cmp d) xs
any_same d [] = refl
any_same d (x ∷ xs) =
    ap (λ (o : Ordering). is_eq o || list_any (eq_by_cmp derived.cmp-value.it d) xs) (same_order d x)
    ∙ ap (λ (b : Bool). is_eq (difference_cmp d x) || b) (any_same d xs)

all_same : (d : Difference) (xs : List Difference) → AllByRecursion (λ y. derived.cmp-value.it d y ≡ Less) xs
    → AllByRecursion (λ y. difference_cmp d y ≡ Less) xs
all_same d [] h = h
all_same d (x ∷ xs) h = (sym (same_order d x) ∙ h.0, all_same d xs h.1)

sorted_same : (xs : List Difference) → IsStrictlySortedBy derived.cmp-value.it xs → IsStrictlySortedBy difference_cmp xs
unfolding IsStrictlySortedBy
sorted_same [] h = h
sorted_same (x ∷ xs) h = (all_same x xs h.0, sorted_same xs h.1)

pub once_from_set : (xs : List Difference) (set : BTreeSet Difference) → IsFromIterResult derived.cmp-value.it xs set → AreOnce xs set.keys
once_from_set xs set h = record {
  which = λ d. sym (any_same d set.keys) ∙ h.0 d ∙ any_same d xs;
  order = sorted_same set.keys h.1;
}
