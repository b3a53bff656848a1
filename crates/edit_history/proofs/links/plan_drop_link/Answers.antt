use Rattle.std.proofs.lemmas.Result.{err_from_is_err_and}
use Rattle.lsa_codec.specs.Making.{without_link}
use Rattle.edit_script.specs.declared.edit.Edit.TheVariants.{DropLink}
use Rattle.edit_history.proofs.LinkEdits.{drop_link_remakes, no_router_lsa, not_made, no_swap, planned}
use Rattle.edit_history.proofs.links.plan_drop_link.Goals as goal

pub returns-in_err-slot : goal.returns-in_err-slot
returns-in_err-slot g c =
    let gave = err_from_is_err_and c.from_residual.result c.from_residual.ensures.1 in
    rw (gave.1, gave.2) (no_router_lsa c.args.database.now (DropLink c.args.area c.args.router c.args.link) c.args.area c.args.router
    (without_link c.args.link) c.in_err-slot.field-0.0 (drop_link_remakes c.args.area c.args.router c.args.link) c.in_err-slot.ensures.refused)

pub returns-in_err-new : goal.returns-in_err-new
returns-in_err-new g c =
    let gave = err_from_is_err_and c.from_residual-in_err-new.result c.from_residual-in_err-new.ensures.1 in
    rw (gave.1, gave.2) (not_made c.args.database.now (DropLink c.args.area c.args.router c.args.link) c.args.area c.args.router
    (without_link c.args.link) c.in_ok-slot.slot c.in_ok-slot.lsa.now c.in_err-new.field-0.0
    (drop_link_remakes c.args.area c.args.router c.args.link) c.in_ok-slot.ensures.found c.in_err-new.ensures.fault)

pub returns-in_err-one_swap : goal.returns-in_err-one_swap
returns-in_err-one_swap g c =
    let gave = err_from_is_err_and c.from_residual-in_err-one_swap.result c.from_residual-in_err-one_swap.ensures.1 in
    rw (gave.1, gave.2) (no_swap c.args.database.now (DropLink c.args.area c.args.router c.args.link) c.args.area c.args.router
    (without_link c.args.link) c.in_ok-slot.slot c.in_ok-slot.lsa.now c.in_ok-new.new
    (drop_link_remakes c.args.area c.args.router c.args.link) c.in_ok-slot.ensures.found c.in_ok-new.ensures.made)

pub returns : goal.returns
returns g c =
    planned c.args.database.now (DropLink c.args.area c.args.router c.args.link) c.args.area c.args.router
    (without_link c.args.link) c.in_ok-slot.slot c.in_ok-slot.lsa.now c.in_ok-new.new c.new-swap.result c.in_ok-one_swap.field-0.items
    c.assert_valid.ensures (drop_link_remakes c.args.area c.args.router c.args.link) c.in_ok-slot.ensures.found
    c.in_ok-new.ensures.made c.in_ok-new.ensures.keeps c.new-swap.ensures c.in_ok-one_swap.ensures
