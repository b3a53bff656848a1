-- Tests that decide whether entries lead the same way.
use Rattle.std.proofs.Common.{◌≡◌, ℕ, Bool, true, false, List, [], ◌∷◌, Option, Some, None, Decides, refl, sym, ap, ◌∙◌}
use Rattle.std.specs.Prelude.{◌&&◌, ◌||◌, not, All, Contains}
use Rattle.std.specs.Cmp.{Equal-is}
use Rattle.std.specs.Cmp.Lexicographic.{pointwise}
use Rattle.std.specs.Ordering.{eq_by_cmp, is_eq}
use Rattle.std.proofs.lemmas.Bool.{and_parts, and_from, false≢true}
use Rattle.std.proofs.lemmas.Bool.Decides.{Decides-eqb, same_from_decides}
use Rattle.std.proofs.lemmas.Cmp.{eq_by_cmp_equiv, tied_itself}
use Rattle.std.proofs.lemmas.List.Elements.{All-cons, All-head, All-nil, All-tail}
use Rattle.std.proofs.lemmas.Map.Views.{Contains-from_any, list_any-from_Contains}
use Rattle.std.proofs.lemmas.Slice.Eq.{slice_eq-Decides}
use Rattle.lsa_codec.specs.declared.address.AreaId.{AreaId}
use Rattle.next_hops.specs.Hop.{hop_cmp}
use Rattle.next_hops.specs.declared.hop.Hop.{Hop}
use Rattle.next_hops.proofs.HopLemmas.{hop_cmp_total, same_hop}
use Rattle.table_changes.specs.Changes.{has_hop, leads_elsewhere, same_area, same_way}
use Rattle.router_entries.specs.Entries.{EntryValue}
use Rattle.table_changes.specs.InWords.{LeadTheSameWay}

pub hop_decides : (a b : Hop) → Decides (eq_by_cmp hop_cmp a b) (a ≡ b)
hop_decides a b = (
  λ h. same_hop a b ((Equal-is (hop_cmp a b)).0 h),
  λ e. ap (λ h. is_eq (hop_cmp a h)) (sym e) ∙ ap is_eq (tied_itself hop_cmp_total a),
)

pub hops_decide : (xs ys : List Hop) → Decides (pointwise (eq_by_cmp hop_cmp) xs ys) (xs ≡ ys)
hops_decide xs ys = slice_eq-Decides hop_decides xs ys (pointwise (eq_by_cmp hop_cmp) xs ys) refl

-- a test that finds hops equal exactly where they are the same tests lists as the order does
pub same_lists : (E : Hop → Hop → Bool) → ((g h : Hop) → E g h ≡ true → g ≡ h) → ((h : Hop) → E h h ≡ true)
    → (xs ys : List Hop) (r : Bool) → r ≡ pointwise E xs ys → r ≡ pointwise (eq_by_cmp hop_cmp) xs ys
same_lists E exact itself xs ys r is =
    let decides : (g h : Hop) → Decides (E g h) (g ≡ h) = λ g h. (exact g h, λ e. ap (E g) (sym e) ∙ itself g) in
    same_from_decides {P = xs ≡ ys} r (pointwise (eq_by_cmp hop_cmp) xs ys) (slice_eq-Decides decides xs ys r is) (hops_decide xs ys)

abbrev area_of : ℕ → AreaId
area_of n = record { 0 = n }

pub area_decides : (a b : Option AreaId) → Decides (same_area a b) (a ≡ b)
area_decides None None = (λ _. refl, λ _. refl)
area_decides None (Some b) = (λ h. cc, λ e. cc)
area_decides (Some a) None = (λ h. cc, λ e. cc)
area_decides (Some a) (Some b) = (
  λ h. ap (λ n. Some (area_of n)) ((Decides-eqb a.0 b.0).0 h),
  λ e. (let same : a ≡ b = cc in (Decides-eqb a.0 b.0).1 (ap (λ (x : AreaId). x.0) same)),
)

module _ (rerouted : List Hop) where
  abbrev IsKept : Hop → Type 0
  IsKept hop = ¬ Contains rerouted hop

  kept_decides : (hop : Hop) → Decides (not (has_hop rerouted hop)) (IsKept hop)
  kept_decides hop = by (has_hop rerouted hop) refl
    where
      by : (b : Bool) → has_hop rerouted hop ≡ b → Decides (not b) (IsKept hop)
      by true is = (λ h. cc, λ n. absurd (n (Contains-from_any (λ x y. (hop_decides x y).0) hop rerouted is)))
      by false is = (λ h c. false≢true (sym is ∙ list_any-from_Contains (eq_by_cmp_equiv hop_cmp_total) hop rerouted c), λ n. refl)

  pub all_kept_decides : (hops : List Hop) → Decides (not (leads_elsewhere rerouted hops)) (All IsKept hops)
  all_kept_decides [] = (λ h. All-nil IsKept, λ a. refl)
  all_kept_decides (x ∷ xs) = by (has_hop rerouted x) (kept_decides x) (all_kept_decides xs)
    where
      by : (b : Bool) → Decides (not b) (IsKept x) → Decides (not (leads_elsewhere rerouted xs)) (All IsKept xs)
          → Decides (not (b || leads_elsewhere rerouted xs)) (All IsKept (x ∷ xs))
      by true one rest = (λ h. cc, λ a. one.1 (All-head IsKept x xs a))
      by false one rest = (λ h. All-cons IsKept x xs (one.0 refl) (rest.0 h), λ a. rest.1 (All-tail IsKept x xs a))

  pub way_decides : (before now : EntryValue) → Decides (same_way rerouted before now) (LeadTheSameWay rerouted before now)
  way_decides before now =
      let area = same_area before.area now.area in
      let hops = pointwise (eq_by_cmp hop_cmp) before.hops now.hops in
      let kept = not (leads_elsewhere rerouted now.hops) in (
        λ h. (let parts = and_parts (area && hops) kept h in let first = and_parts area hops parts.0 in record {
          area = (area_decides before.area now.area).0 first.0;
          hops = (hops_decide before.hops now.hops).0 first.1;
          routers = (all_kept_decides now.hops).0 parts.1;
        }),
        λ way. and_from (area && hops) kept
            (and_from area hops ((area_decides before.area now.area).1 way.area) ((hops_decide before.hops now.hops).1 way.hops))
            ((all_kept_decides now.hops).1 way.routers),
      )
