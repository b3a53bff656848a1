use Rattle.std.proofs.Common.{◌<◌, ◌^◌, Option, Some, None, IfSome, Bor, sym, subst, ◌∙◌}
use Rattle.std.specs.Prelude.{◌&&◌}
use Rattle.std.specs.Option.{option_copied}
use Rattle.area_routes.specs.declared.entry.EntryKind.TheVariants.{Border}
use Rattle.area_routes.specs.Inter.{same_kind, same_router}
use Rattle.area_routes.specs.Values.{EntryValue}
use Rattle.best_ways.proofs.WayLemmas.{found_has}
use Rattle.area_routes.proofs.indexed_area.IndexedArea.border.Goals as goal

-- what holds of the value holds of the value of the reference
after : (P : EntryValue → Type 0) (r : Option (Bor EntryValue)) → IfSome (option_copied r) P → IfSome r (λ e. P e.now)
after P None h = tt
after P (Some e) h = h

pub returns-clause-below : goal.returns-clause-below
returns-clause-below g c =
    let below : EntryValue → Type 0 = λ e. e.cost < 2 ^ 33 in
    after below c.get.result
    (subst (λ (o : Option EntryValue). IfSome o below) (sym (c.get.ensures ∙ c.self.invariant.borders_of c.args.router))
    (found_has below (λ e. same_kind e.kind Border && same_router e.router c.args.router) c.self.inside.result.now.entries c.self.invariant.below.entries))
