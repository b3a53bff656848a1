-- A refresh is planned, or refused because memory ran out.
use Rattle.std.proofs.Common.{◌≡◌, ◌++◌, ℕ, List, length, take, drop, sym, ap, ◌∙◌, subst}
use Rattle.std.proofs.Math.Seq.{take-append_seam}
use Rattle.lsa_codec.specs.Areas.{is_backbone}
use Rattle.lsdb.specs.Lists.{IsDatabase}
use Rattle.lsdb.specs.Slots.{Slots, lists_of}
use Rattle.summary_metrics.specs.Refreshed.{is_not_backbone}
use Rattle.edit_script.specs.declared.edit.Edit.TheVariants.{Refresh}
use Rattle.edit_history.specs.declared.fault.EditFault.{EditFault}
use Rattle.edit_history.specs.declared.fault.EditFault.TheVariants.{OutOfMemory}
use Rattle.edit_history.specs.Rules.{by_fates}
use Rattle.edit_history.specs.Exchange.{SwapData, CanDo, done_slots}
use Rattle.edit_history.specs.Refreshing.{pass_fates, refresh_fates}
use Rattle.edit_history.specs.steps.Plans.{swaps_from}
use Rattle.edit_history.specs.Applied.{Planned, IsRefused}
use Rattle.edit_history.proofs.RulesCarriedOut.{planned_here, no_memory}
use Rattle.edit_history.proofs.FatesBySlot.{fates_carried_out}
use Rattle.edit_history.proofs.RefreshFates.{pass_safe, refresh_safe}
use Rattle.edit_history.proofs.RefreshSettles.{refresh_ruled}
use Rattle.edit_history.proofs.RefreshPasses.{passes_joined}

-- the first pass can be done
pub first_can : (d : Slots) (one : List SwapData) → IsDatabase (lists_of d) → one ≡ swaps_from (pass_fates is_backbone (lists_of d)) 0 d → CanDo d one
first_can d one sound is =
    subst (CanDo d) (sym is) (fates_carried_out (pass_fates is_backbone (lists_of d)) d (pass_safe is_backbone (lists_of d)) sound).can

pub refresh_planned : (d e : Slots) (one two items : List SwapData) → IsDatabase (lists_of d) → one ≡ swaps_from (pass_fates is_backbone (lists_of d)) 0 d
    → e ≡ done_slots d one → two ≡ swaps_from (pass_fates is_not_backbone (lists_of e)) 0 e → items ≡ one ++ two → Planned d d Refresh items
refresh_planned d e one two items sound one_is done two_is items_is =
    planned_here d Refresh (by_fates (refresh_fates (lists_of d))) (swaps_from (refresh_fates (lists_of d)) 0 d) items (refresh_ruled (lists_of d))
    (fates_carried_out (refresh_fates (lists_of d)) d (refresh_safe (lists_of d)) sound)
    (items_is ∙ passes_joined d e one two sound one_is done two_is)

-- memory ran out
pub refresh_memory : (d : Slots) (fault : EditFault) → fault ≡ OutOfMemory → IsRefused d Refresh fault
refresh_memory d fault is = subst (IsRefused d Refresh) (sym is) (no_memory d Refresh (by_fates (refresh_fates (lists_of d))) (refresh_ruled (lists_of d)))

-- a vector whose items were written back as they were
pub written_back : (one new old : List SwapData) (n : ℕ) → n ≡ length one → new ≡ one → take n (new ++ drop (length new) old) ≡ one
written_back one new old n count same =
    ap (λ k. take k (new ++ drop (length new) old)) count ∙ ap (λ (ss : List SwapData). take (length one) (ss ++ drop (length new) old)) same
    ∙ take-append_seam one (drop (length new) old)
