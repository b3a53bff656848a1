-- Sets of areas: what is in both, and what is not in one.
use Rattle.std.proofs.Common.{◌≡◌, true, false, List, sym, ap, subst, ◌∙◌}
use Rattle.std.specs.Prelude.{filter, not, ◌&&◌}
use Rattle.std.specs.BTreeSet.{BTreeSet, IsFromIterResult, contains}
use Rattle.std.specs.List.{filter_map}
use Rattle.std.specs.List.Sorted.{IsStrictlySortedBy}
use Rattle.std.specs.Ordering.{eq_by_cmp}
use Rattle.std.proofs.lemmas.List.Elements.{filter_agree}
use Rattle.std.proofs.lemmas.List.Kept.{IsStrictlySortedBy-filter}
use Rattle.std.proofs.lemmas.Map.Views.{any-filter_same}
use Rattle.lsa_codec.specs.declared.address.AreaId.{AreaId}
use Rattle.lsa_codec.specs.Areas.{is_backbone}
use Rattle.lsa_codec.specs.Order.{area_cmp}
use Rattle.lsa_codec.proofs.OrderLemmas.{area_exact}
use Rattle.capture_report.specs.Sets.{has}
use Rattle.capture_report.proofs.Members.{eq_true}
use Rattle.capture_report.specs.Contradictions.{AreContradictions, reported_id}
use Rattle.capture_report.specs.NoKind.{ids_of, without_kind}
use Rattle.lsa_instances.specs.declared.area.AreaReport.{AreaReport}

pub in_both : (areas : List AreaReport) (stubs others : BTreeSet AreaId) (both : List AreaId)
    → IsFromIterResult area_cmp (filter_map (reported_id true) areas) stubs → IsFromIterResult area_cmp (filter_map (reported_id false) areas) others
    → both ≡ filter (contains area_cmp others) stubs.keys → AreContradictions areas both
in_both areas stubs others both h k e = record {
  which = λ id.
      ap (has area_cmp id) e
      ∙ any-filter_same (eq_by_cmp area_cmp id) (contains area_cmp others) (contains area_cmp others id)
      (λ a same. ap (contains area_cmp others) (sym (area_exact id a (eq_true (area_cmp id a) same)))) stubs.keys
      ∙ ap (λ b. b && has area_cmp id stubs.keys) (k.0 id)
      ∙ ap (λ b. has area_cmp id (filter_map (reported_id false) areas) && b) (h.0 id);
  order = subst (λ l. IsStrictlySortedBy area_cmp l) (sym e) (IsStrictlySortedBy-filter area_cmp (contains area_cmp others) stubs.keys h.1);
}

pub those_left : (kinds : List AreaReport) (reported ids left : List AreaId) (others : BTreeSet AreaId) → reported ≡ ids_of kinds
    → IsFromIterResult area_cmp reported others → left ≡ filter (λ id. not (is_backbone id) && not (contains area_cmp others id)) ids
    → left ≡ without_kind kinds ids
those_left kinds reported ids left others e h k =
    k
    ∙ filter_agree (λ id. not (is_backbone id) && not (contains area_cmp others id)) (λ id. not (is_backbone id) && not (has area_cmp id (ids_of kinds)))
    (λ id. ap (λ b. not (is_backbone id) && not b) (h.0 id ∙ ap (has area_cmp id) e)) ids
