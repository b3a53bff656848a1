use Rattle.std.proofs.Common.{◌++◌, sym, ◌∙◌, ap, List}
use Rattle.std.proofs.lemmas.Result.{on_ok_weaker}
use Rattle.lsdb.specs.Slots.{item_at, slots_in, head_or_none, lists_of}
use Rattle.edit_history.specs.Exchange.{SwapData}
use Rattle.edit_history.specs.steps.Passing.{chosen}
use Rattle.edit_history.proofs.RefreshLoops.{none_as_wide, none_unchosen, all_chosen}
use Rattle.edit_history.proofs.refreshing.add_pass_swaps.Goals as goal

pub returns-in_default-clause-swaps : goal.returns-in_default-clause-swaps
returns-in_default-clause-swaps g c =
    none_as_wide (chosen c.args.pass) (lists_of c.args.database.now) c.args.number (slots_in c.args.database.now c.args.number)
    (head_or_none (item_at c.args.database.now c.args.number)) c.args.swaps.now.items (sym c.in_default.is ∙ c.area_in.ensures)

pub returns-then-not-has-clause-swaps : goal.returns-then-not-has-clause-swaps
returns-then-not-has-clause-swaps g c =
    none_unchosen (chosen c.args.pass) (lists_of c.args.database.now) c.args.number (slots_in c.args.database.now c.args.number)
    (head_or_none (item_at c.args.database.now c.args.number)) c.in-Some.area c.in-Some.field-0-1 c.args.swaps.now.items
    (sym c.in-Some.is ∙ c.area_in.ensures) (sym c.has.ensures ∙ c.if-not-has.true)

pub returns-clause-swaps : goal.returns-clause-swaps
returns-clause-swaps g c =
    let same = all_chosen (chosen c.args.pass) (lists_of c.args.database.now) c.args.number (slots_in c.args.database.now c.args.number)
    (head_or_none (item_at c.args.database.now c.args.number)) c.in-Some.area c.in-Some.field-0-1 (sym c.in-Some.is ∙ c.area_in.ensures)
    (sym c.has.ensures ∙ c.if-not-has.false) in
    on_ok_weaker c.add_area_swaps.result (λ added. added ∙ ap (λ (ss : List SwapData). c.args.swaps.now.items ++ ss) same) c.add_area_swaps.ensures.swaps
