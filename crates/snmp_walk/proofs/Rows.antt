-- Sets of rows: what is in one and not in another.
use Rattle.std.proofs.Common.{◌≡◌, true, List, Option, Some, None, refl, sym, ap, subst, ◌∙◌}
use Rattle.std.specs.Prelude.{not, filter, ◌&&◌}
use Rattle.std.specs.BTreeSet.{BTreeSet, IsFromIterResult, contains}
use Rattle.std.specs.List.Sorted.{IsStrictlySortedBy}
use Rattle.std.specs.Option.{option_cmp}
use Rattle.std.specs.Ordering.{is_eq, eq_by_cmp}
use Rattle.std.specs.declared.cmp.Ordering.{Ordering}
use Rattle.std.specs.declared.cmp.Ordering.TheVariants.{Less, Equal, Greater}
use Rattle.std.proofs.lemmas.List.Kept.{IsStrictlySortedBy-filter}
use Rattle.std.proofs.lemmas.Map.Views.{any-filter_same}
use Rattle.lsa_codec.specs.declared.address.AreaId.{AreaId}
use Rattle.lsa_codec.specs.Order.{area_cmp, key_cmp}
use Rattle.lsa_codec.proofs.OrderLemmas.{area_exact, key_exact, then_both}
use Rattle.findings.specs.Order.{reported_cmp}
use Rattle.findings.specs.declared.reported_lsa.ReportedLsa.{ReportedLsa}
use Rattle.snmp_walk.specs.Counts.{AreRows}
use Rattle.snmp_walk.specs.Missing.{has, AreMissing}

area_of_row_exact : (a b : Option AreaId) → option_cmp area_cmp a b ≡ Equal → a ≡ b
area_of_row_exact None None h = refl
area_of_row_exact None (Some b) h = cc
area_of_row_exact (Some a) None h = cc
area_of_row_exact (Some a) (Some b) h = ap (λ (id : AreaId). Some id) (area_exact a b h)

row_exact : (a b : ReportedLsa) → reported_cmp a b ≡ Equal → a ≡ b
row_exact a b h =
    let p = then_both (option_cmp area_cmp a.area b.area) (key_cmp a.key b.key) h in
    λ i. record { area = area_of_row_exact a.area b.area p.0 i; key = key_exact a.key b.key p.1 i }

pub eq_true : (o : Ordering) → is_eq o ≡ true → o ≡ Equal
eq_true Less h = cc
eq_true Equal h = refl
eq_true Greater h = cc

pub left_over : (columns bytes : List ReportedLsa) (these others : BTreeSet ReportedLsa) (rows : List ReportedLsa) → IsFromIterResult reported_cmp columns these
    → IsFromIterResult reported_cmp bytes others → rows ≡ filter (λ row. not (contains reported_cmp others row)) these.keys → AreMissing columns bytes rows
left_over columns bytes these others rows h k e = record {
  which = λ row.
      ap (has row) e
      ∙ any-filter_same (eq_by_cmp reported_cmp row) (λ r. not (contains reported_cmp others r)) (not (contains reported_cmp others row))
      (λ r same. ap (λ (x : ReportedLsa). not (contains reported_cmp others x)) (sym (row_exact row r (eq_true (reported_cmp row r) same)))) these.keys
      ∙ ap (λ b. not b && has row these.keys) (k.0 row)
      ∙ ap (λ b. not (has row bytes) && b) (h.0 row);
  order = subst (λ l. IsStrictlySortedBy reported_cmp l) (sym e) (IsStrictlySortedBy-filter reported_cmp (λ row. not (contains reported_cmp others row)) these.keys h.1);
}

-- the rows of a set, in order
pub rows_once : (rows : List ReportedLsa) (set : BTreeSet ReportedLsa) (once : List ReportedLsa) → IsFromIterResult reported_cmp rows set → once ≡ set.keys
    → AreRows rows once
rows_once rows set once h e = record {
  which = λ row. ap (has row) e ∙ h.0 row;
  order = subst (λ l. IsStrictlySortedBy reported_cmp l) (sym e) h.1;
}
