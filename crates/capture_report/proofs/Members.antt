-- Sets of items: what is in one and not in another.
use Rattle.std.proofs.Common.{◌≡◌, true, List, refl, sym, ap, subst, ◌∙◌}
use Rattle.std.specs.Prelude.{not, filter, ◌&&◌}
use Rattle.std.specs.BTreeSet.{BTreeSet, IsFromIterResult, contains}
use Rattle.std.specs.Cmp.{IsTotalOrder}
use Rattle.std.specs.List.{list_any}
use Rattle.std.specs.List.Sorted.{IsStrictlySortedBy}
use Rattle.std.specs.Ordering.{is_eq, eq_by_cmp}
use Rattle.std.specs.declared.cmp.Ordering.{Ordering}
use Rattle.std.specs.declared.cmp.Ordering.TheVariants.{Less, Equal, Greater}
use Rattle.std.proofs.lemmas.List.Kept.{IsStrictlySortedBy-filter}
use Rattle.std.proofs.lemmas.Map.Views.{any-filter_same}
use Rattle.capture_report.specs.Sets.{has, AreMissing, AreShared}

pub eq_true : (o : Ordering) → is_eq o ≡ true → o ≡ Equal
eq_true Less h = cc
eq_true Equal h = refl
eq_true Greater h = cc

module _ {X : Type 0} {cmp : X → X → Ordering} (total : IsTotalOrder cmp) where
  -- what equal items are among
  among_same : (x y : X) → eq_by_cmp cmp x y ≡ true → (items : List X) → list_any (eq_by_cmp cmp y) items ≡ list_any (eq_by_cmp cmp x) items
  among_same x y same items = λ i. list_any (λ z. is_eq (sym (total.congr x y z (eq_true (cmp x y) same)) i)) items

  pub left_over : (named described : List X) (these others : BTreeSet X) (left : List X) → IsFromIterResult cmp named these
      → IsFromIterResult cmp described others → left ≡ filter (λ item. not (contains cmp others item)) these.keys → AreMissing cmp named described left
  left_over named described these others left h k e = record {
    which = λ item.
        ap (has cmp item) e
        ∙ any-filter_same (eq_by_cmp cmp item) (λ x. not (contains cmp others x)) (not (contains cmp others item))
        (λ x same. ap not (among_same item x same others.keys)) these.keys
        ∙ ap (λ b. not b && has cmp item these.keys) (k.0 item)
        ∙ ap (λ b. not (has cmp item described) && b) (h.0 item);
    order =
        subst (λ l. IsStrictlySortedBy cmp l) (sym e)
        (IsStrictlySortedBy-filter cmp (λ item. not (contains cmp others item)) these.keys h.1);
  }

  pub in_common : (named others : List X) (these those : BTreeSet X) (both : List X) → IsFromIterResult cmp named these
      → IsFromIterResult cmp others those → both ≡ filter (λ item. contains cmp those item) these.keys → AreShared cmp named others both
  in_common named others these those both h k e = record {
    which = λ item.
        ap (has cmp item) e
        ∙ any-filter_same (eq_by_cmp cmp item) (λ x. contains cmp those x) (contains cmp those item)
        (λ x same. among_same item x same those.keys) these.keys
        ∙ ap (λ b. b && has cmp item these.keys) (k.0 item)
        ∙ ap (λ b. has cmp item others && b) (h.0 item);
    order =
        subst (λ l. IsStrictlySortedBy cmp l) (sym e)
        (IsStrictlySortedBy-filter cmp (λ item. contains cmp those item) these.keys h.1);
  }
