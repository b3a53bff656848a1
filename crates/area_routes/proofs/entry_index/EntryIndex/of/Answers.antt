use Rattle.std.proofs.Common.{◌∷◌, [], ◌++◌, List, take, sym, ap, subst, ◌∙◌}
use Rattle.std.proofs.lemmas.List.{take_more}
use Rattle.area_routes.specs.steps.EntryIndex.{IsIndexOf}
use Rattle.area_routes.specs.Values.{EntryValue}
use Rattle.area_routes.proofs.entry_index.EntryIndex.of.Goals as goal

pub loop-entry-preserved : goal.loop-entry-preserved
loop-entry-preserved g c =
    let entries = c.args.entries.now in
    let i = c.loop-entry.entry-index in
    let P : List EntryValue → Type 0 = λ es. IsIndexOf c.args.kind es c.insert_entry.new.by_router.entries in
    subst P (ap (λ e. take i entries ++ e ∷ []) c.entry-item.is ∙ sym (take_more entries i c.entry-item.result c.loop-entry-test.true))
    (c.in_ok-insert_entry.ensures (take i entries) c.loop-entry.invariant)
