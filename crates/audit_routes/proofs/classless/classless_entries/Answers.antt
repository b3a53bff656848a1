use Rattle.std.proofs.Common.{◌<◌, ◌^◌, ◌∙◌, [], ◌∷◌, ◌++◌, List, map, sym, ap, subst}
use Rattle.area_routes.specs.Values.{EntryValue}
use Rattle.area_routes.proofs.AddsLemmas.{map_adds}
use Rattle.audit_routes.specs.Compatibility.{classless_entry}
use Rattle.audit_routes.proofs.Loops.{ended, one_more}
use Rattle.audit_routes.proofs.classless.classless_entries.Goals as goal

pub push-requires : goal.push-requires
push-requires g c =
    let entry : EntryValue = c.entry-item.result in
    subst (λ (e : EntryValue). e.cost < 2 ^ 34) (sym c.in_ok-classless_entry.ensures)
    (subst (λ (e : EntryValue). e.cost < 2 ^ 34) (sym c.entry-item.is)
    (c.as_slice-entry-items.ensures.small c.loop-entry.entry-index entry c.loop-entry-test.true))

pub loop-entry-preserved : goal.loop-entry-preserved
loop-entry-preserved g c =
    one_more (map_adds classless_entry) [] c.as_slice-entry-items.result.now c.loop-entry.entry-index c.entry-item.result c.loop-entry.all _
    c.loop-entry-test.true c.entry-item.is c.loop-entry.invariant
    (c.in_ok-push.ensures.pushed ∙ ap (λ (e : EntryValue). c.loop-entry.all ++ e ∷ []) c.in_ok-classless_entry.ensures)

pub returns : goal.returns
returns g c =
    ended (map_adds classless_entry) [] c.as_slice-entry-items.result.now c.loop-entry.entry-index c.loop-entry.all c.loop-entry-test.false
    c.loop-entry.invariant
    ∙ ap (λ (entries : List EntryValue). map classless_entry entries) c.as_slice-entry-items.ensures.entries
