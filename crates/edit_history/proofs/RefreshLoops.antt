-- The swaps of a section in one pass, by its area.
use Rattle.std.proofs.Common.{◌≡◌, ℕ, Bool, true, false, cond, List, ◌++◌, append-nil, Option, Some, None, refl, sym, ap, ◌∙◌}
use Rattle.std.specs.Option.{option_map}
use Rattle.lsa_codec.specs.declared.address.AreaId.{AreaId}
use Rattle.lsdb.specs.declared.section.Section.TheVariants.{Area}
use Rattle.lsdb.specs.Lists.{AreaHead, Lists, id_and_kind}
use Rattle.lsdb.specs.Slots.{Slot}
use Rattle.summary_metrics.specs.Refreshed.{id_of}
use Rattle.edit_history.specs.Rules.{stays, section_name}
use Rattle.edit_history.specs.Exchange.{SwapData}
use Rattle.edit_history.specs.Refreshing.{metric_fate, pass_fates}
use Rattle.edit_history.specs.steps.Plans.{section_swaps}
use Rattle.edit_history.proofs.FailureFates.{same_swaps, no_swaps}

abbrev area_of : AreaId → Option (AreaId × Bool) → AreaId
area_of other None = other
area_of other (Some named) = named.0

module _ (chosen : AreaId → Bool) (db : Lists) (k : ℕ) (ps : List Slot) where
  -- the swaps of the section
  abbrev swaps_of : Option AreaHead → List SwapData
  swaps_of head = section_swaps (pass_fates chosen db head) k (section_name head) 0 ps

  pub none_as_wide : (head : Option AreaHead) (old : List SwapData) → None ≡ option_map id_and_kind head → old ≡ old ++ swaps_of head
  none_as_wide None old is =
      sym (ap (λ (ss : List SwapData). old ++ ss) (same_swaps (pass_fates chosen db None) (λ x. stays) k (section_name None) 0 ps (λ x. refl)
      ∙ no_swaps k (section_name None) 0 ps) ∙ append-nil old)
  none_as_wide (Some head) old is = absurd cc

  pub none_unchosen : (head : Option AreaHead) (area : AreaId) (kind : Bool) (old : List SwapData) → Some (area, kind) ≡ option_map id_and_kind head
      → chosen area ≡ false → old ≡ old ++ swaps_of head
  none_unchosen None area kind old is other = absurd cc
  none_unchosen (Some head) area kind old is other =
      let same : area ≡ id_of head = ap (area_of area) is in
      let out : chosen (id_of head) ≡ false = ap chosen (sym same) ∙ other in
      sym (ap (λ (ss : List SwapData). old ++ ss)
      (same_swaps (pass_fates chosen db (Some head)) (λ x. stays) k (section_name (Some head)) 0 ps
      (λ x. ap (λ b. cond b (metric_fate db (id_of head) x) stays) out)
      ∙ no_swaps k (section_name (Some head)) 0 ps) ∙ append-nil old)

  pub all_chosen : (head : Option AreaHead) (area : AreaId) (kind : Bool) → Some (area, kind) ≡ option_map id_and_kind head → chosen area ≡ true
      → section_swaps (metric_fate db area) k (Area area) 0 ps ≡ swaps_of head
  all_chosen None area kind is here = absurd cc
  all_chosen (Some head) area kind is here =
      let same : area ≡ id_of head = ap (area_of area) is in
      let within : chosen (id_of head) ≡ true = ap chosen (sym same) ∙ here in
      ap (λ (a : AreaId). section_swaps (metric_fate db a) k (Area a) 0 ps) same
      ∙ sym (same_swaps (pass_fates chosen db (Some head)) (metric_fate db (id_of head)) k (section_name (Some head)) 0 ps
      (λ x. ap (λ b. cond b (metric_fate db (id_of head) x) stays) within))
