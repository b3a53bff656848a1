use Rattle.std.proofs.Common.{◌≡◌, true, false, sym, ap, ◌∙◌, subst, rules}
use Rattle.std.specs.Prelude.{◌==◌}
use Rattle.std.proofs.lemmas.Result.{err_from_is_err_and}
use Rattle.lsdb.specs.declared.section.Section.TheVariants.{Area}
use Rattle.lsdb.specs.Slots.{lists_of, slots_in}
use Rattle.edit_script.specs.declared.edit.Edit.TheVariants.{FailLink}
use Rattle.edit_history.specs.declared.fault.EditFault.{EditFault}
use Rattle.edit_history.specs.Rules.{within}
use Rattle.edit_history.specs.Effect.{link_fate}
use Rattle.edit_history.specs.steps.Failing.{pair_swaps}
use Rattle.edit_history.specs.steps.Plans.{section_swaps}
use Rattle.edit_history.specs.Applied.{IsRefused}
use Rattle.edit_history.proofs.NamedLsas.{no_area_refused}
use Rattle.edit_history.proofs.Searches.{there_too}
use Rattle.edit_history.proofs.PairSwaps.{links_of_pair}
use Rattle.edit_history.proofs.RulesCarriedOut.{planned_here, no_memory, plan_of}
use Rattle.edit_history.proofs.FailureFates.{link_safe, section_carried_out}
use Rattle.edit_history.proofs.FailureRules.{link_row, link_same, link_no_router, link_no_neighbor, link_none, link_ruled}
use Rattle.edit_history.proofs.failures.plan_fail_link.Goals as goal

pub returns-in_err-area_section : goal.returns-in_err-area_section
returns-in_err-area_section g c =
    let gave = err_from_is_err_and c.from_residual.result c.from_residual.ensures.1 in
    rw (gave.1, gave.2) (no_area_refused c.args.database.now (FailLink c.args.area c.args.router c.args.neighbor) c.args.area _ _
    (link_row (lists_of c.args.database.now) c.args.area c.args.router c.args.neighbor) c.in_err-area_section.ensures.refused c.in_err-area_section.ensures.absent)

pub returns-then-eq : goal.returns-then-eq
returns-then-eq g c = let same : (c.args.router.0 == c.args.neighbor.0) ≡ true = search rules in
    link_same c.args.database.now c.args.area c.args.router c.args.neighbor c.in_ok-area_section.field-0 c.in_ok-area_section.ensures.found same

pub returns-in_err-slot : goal.returns-in_err-slot
returns-in_err-slot g c =
    let gave = err_from_is_err_and c.from_residual-in_err-slot.result c.from_residual-in_err-slot.ensures.1 in
    rw (gave.1, gave.2) (subst (λ (f : EditFault). IsRefused c.args.database.now (FailLink c.args.area c.args.router c.args.neighbor) f)
    (sym c.in_err-slot.ensures.refused)
    (link_no_router c.args.database.now c.args.area c.args.router c.args.neighbor c.in_ok-area_section.field-0 c.in_ok-area_section.ensures.found
    (let apart : (c.args.router.0 == c.args.neighbor.0) ≡ false = search rules in apart)
    c.in_err-slot.ensures.absent))

pub returns-in_err-other_slot : goal.returns-in_err-other_slot
returns-in_err-other_slot g c =
    let gave = err_from_is_err_and c.from_residual-in_err-other_slot.result c.from_residual-in_err-other_slot.ensures.1 in
    rw (gave.1, gave.2) (subst (λ (f : EditFault). IsRefused c.args.database.now (FailLink c.args.area c.args.router c.args.neighbor) f)
    (sym c.in_err-other_slot.ensures.refused)
    (link_no_neighbor c.args.database.now c.args.area c.args.router c.args.neighbor c.in_ok-area_section.field-0 c.in_ok-slot.slot
    c.in_ok-slot.lsa.now c.in_ok-area_section.ensures.found
    (let apart : (c.args.router.0 == c.args.neighbor.0) ≡ false = search rules in apart)
    c.in_ok-slot.ensures.found c.in_err-other_slot.ensures.absent))

pub returns-then-not-are_linked : goal.returns-then-not-are_linked
returns-then-not-are_linked g c =
    let there : c.are_linked.result ≡ false = search rules in
    link_none c.args.database.now c.args.area c.args.router c.args.neighbor c.in_ok-area_section.field-0 c.in_ok-slot.slot
    c.in_ok-slot.lsa.now c.in_ok-other_slot.other_slot c.in_ok-other_slot.other.now c.in_ok-area_section.ensures.found
    (let apart : (c.args.router.0 == c.args.neighbor.0) ≡ false = search rules in apart)
    c.in_ok-slot.ensures.found c.in_ok-other_slot.ensures.found (sym c.are_linked.ensures ∙ there)

pub returns : goal.returns
returns g c =
    let edit = FailLink c.args.area c.args.router c.args.neighbor in
    let apart : (c.args.router.0 == c.args.neighbor.0) ≡ false = search rules in
    let there : c.are_linked.result ≡ true = search rules in
    let ruled = link_ruled c.args.database.now c.args.area c.args.router c.args.neighbor c.in_ok-area_section.field-0
    c.in_ok-slot.slot c.in_ok-slot.lsa.now c.in_ok-other_slot.other_slot c.in_ok-other_slot.other.now c.in_ok-area_section.ensures.found apart
    c.in_ok-slot.ensures.found c.in_ok-other_slot.ensures.found (sym c.are_linked.ensures ∙ there) in
    let fate = link_fate c.args.router c.args.neighbor in
    let slot = c.in_ok-slot.slot in
    let carried = section_carried_out c.args.database.now (Area c.args.area) fate slot.section c.assert_valid.ensures c.in_ok-slot.ensures.found.named
    (there_too c.args.database.now slot.section c.in_ok-slot.ensures.found.named.exists) (link_safe c.args.router c.args.neighbor) in
    let pair = links_of_pair c.args.database.now c.args.area c.args.router c.args.neighbor slot c.in_ok-other_slot.other_slot c.in_ok-slot.lsa.now
    c.in_ok-other_slot.other.now c.assert_valid.ensures apart c.in_ok-slot.ensures.found c.in_ok-other_slot.ensures.found in
    plan_of c.args.database.now c.args.database.now edit _ _ c.swaps_of_pair.result c.swaps_of_pair.ensures.swaps c.swaps_of_pair.ensures.memory
    (λ v is. planned_here c.args.database.now edit (within (Area c.args.area) fate)
    (section_swaps fate slot.section (Area c.args.area) 0 (slots_in c.args.database.now slot.section)) v.items ruled carried
    (is ∙ ap (pair_swaps fate (Area c.args.area) c.args.database.now) c.in_order-slots.ensures ∙ pair))
    (no_memory c.args.database.now edit _ ruled)
