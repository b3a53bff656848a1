-- What is answered by the indexes of the slots of a section.
use Rattle.std.proofs.Common.{◌≡◌, ◌∙◌, ℕ, zero, suc, List, [], ◌∷◌, ◌++◌, Option, Some, None, refl, ap, subst}
use Rattle.std.specs.Prelude.{All, option_map}
use Rattle.std.specs.Cmp.{IsTotalOrder}
use Rattle.std.proofs.lemmas.Cmp.{nat_cmp_total, on_total, then_total}
use Rattle.std.proofs.lemmas.List.Elements.{All-head, All-tail}
use Rattle.lsa_codec.specs.declared.address.RouterId.{RouterId}
use Rattle.lsa_codec.specs.declared.key.Key.{Key}
use Rattle.lsa_codec.specs.Key.{key_of}
use Rattle.lsa_codec.specs.Order.{key_cmp, router_cmp}
use Rattle.lsa_codec.specs.Prefix.{Net}
use Rattle.lsa_codec.proofs.OrderLemmas.{router_exact, router_total}
use Rattle.lsdb.specs.declared.origin.Origin.{Origin}
use Rattle.lsdb.specs.declared.slot_index.SlotIndex.{SlotIndex}
use Rattle.lsdb.specs.declared.slot_index.SlotOf.{SlotOf}
use Rattle.lsdb.specs.KeyRanges.{AreKeysBetween, HaveWidths}
use Rattle.lsdb.specs.PrefixSlots.{AreSlotsOfPrefix, origin_of, prefix_slot}
use Rattle.lsdb.specs.RouterSlots.{AreSlotsOfRouter, router_of, router_slot}
use Rattle.lsdb.specs.Slots.{Slot, full, item_at}
use Rattle.lsdb.specs.steps.IndexKeys.{origin_cmp, origin_exact, own_key, own_origin, own_router}
use Rattle.lsdb.specs.steps.SlotIndex.{IsIndex, IsPart, noted_at, slot_of}
use Rattle.lsdb.proofs.SlotRanges.{all_same, rising_of_key, same_within}

origin_total : IsTotalOrder origin_cmp
origin_total =
    then_total (on_total (λ (o : Origin). o.adv) router_total)
    (then_total (on_total (λ (o : Origin). o.network.0) nat_cmp_total) (on_total (λ (o : Origin). o.mask_length) nat_cmp_total))

all_full : (P : List ℕ → Type 0) (ps : List Slot) (i : ℕ) (lsa : List ℕ) → All P (full ps) → item_at ps i ≡ Some (Some lsa) → P lsa
all_full P [] i lsa h at = absurd cc
all_full P (None ∷ ps) zero lsa h at = absurd cc
all_full P (Some x ∷ ps) zero lsa h at = let same : x ≡ lsa = cc in subst P same (All-head P x (full ps) h)
all_full P (None ∷ ps) (suc i) lsa h at = all_full P ps i lsa h at
all_full P (Some x ∷ ps) (suc i) lsa h at = all_full P ps i lsa (All-tail P x (full ps) h) at

module _ {A : Type 0} where
  pub keys_between : (ps : List Slot) (index : SlotIndex Key A) (part : List (SlotOf Key)) (low high : Key) → IsIndex key_cmp own_key ps index
      → All HaveWidths (full ps) → IsPart key_cmp (index.latest.items ++ index.noted.items) low high part → AreKeysBetween ps low high part
  keys_between ps index part low high indexed widths found = record {
    rising = found.rising;
    within = found.within;
    whole = λ i lsa at inside. found.whole (slot_of i (key_of lsa)) (indexed.whole i (Some lsa) (slot_of i (key_of lsa)) at refl) inside;
    widths = λ i lsa at. all_full HaveWidths ps i lsa widths at;
  }

  pub slots_of_router : (ps : List Slot) (index : SlotIndex RouterId A) (part : List (SlotOf RouterId)) (router : RouterId)
      → IsIndex router_cmp own_router ps index → IsPart router_cmp (index.latest.items ++ index.noted.items) router router part
      → AreSlotsOfRouter ps router part
  slots_of_router ps index part router indexed found =
      let own = all_same router_cmp router_total router_exact part router found.within in
      record {
        rising = rising_of_key router_cmp router_total router_exact part router found.rising own;
        own = own;
        whole = λ i lsa at adv.
            let same : router_of lsa ≡ router = ap (λ (n : ℕ). let r : RouterId = record { 0 = n } in r) adv in
            found.whole (router_slot i lsa) (indexed.whole i (Some lsa) (router_slot i lsa) at refl)
            (same_within router_cmp router_total router_exact router (router_of lsa) same);
      }

  pub slots_of_prefix : (ps : List Slot) (index : SlotIndex Origin A) (part : List (SlotOf Origin)) (router : RouterId) (net : Net)
      → IsIndex origin_cmp own_origin ps index
      → IsPart origin_cmp (index.latest.items ++ index.noted.items) (origin_of router net) (origin_of router net) part → AreSlotsOfPrefix ps router net part
  slots_of_prefix ps index part router net indexed found =
      let one = origin_of router net in
      let own = all_same origin_cmp origin_total origin_exact part one found.within in
      record {
        rising = rising_of_key origin_cmp origin_total origin_exact part one found.rising own;
        own = own;
        whole = λ i lsa at adv prefix.
            let same : router_of lsa ≡ router = ap (λ (n : ℕ). let r : RouterId = record { 0 = n } in r) adv in
            let named : noted_at own_origin i (Some lsa) ≡ Some (prefix_slot i router net) =
            ap (λ (o : Option Net). option_map (slot_of i) (option_map (origin_of (router_of lsa)) o)) prefix
            ∙ ap (λ (r : RouterId). Some (prefix_slot i r net)) same in
            found.whole (prefix_slot i router net) (indexed.whole i (Some lsa) (prefix_slot i router net) at named)
            (same_within origin_cmp origin_total origin_exact one one refl);
      }
