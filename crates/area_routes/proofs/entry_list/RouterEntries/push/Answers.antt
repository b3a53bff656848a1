use Rattle.std.proofs.Common.{◌<◌, ◌^◌, List, sym, subst}
use Rattle.std.proofs.lemmas.List.Elements.{All-push}
use Rattle.area_routes.specs.Values.{EntryValue, EntriesBelow}
use Rattle.area_routes.proofs.entry_list.RouterEntries.push.Goals as goal

pub invariant_of-self-2 : goal.invariant_of-self-2
invariant_of-self-2 g c = subst (λ (entries : List EntryValue). EntriesBelow (2 ^ 34) entries) (sym c.in_ok-push.ensures.items)
    (All-push (λ (e : EntryValue). e.cost < 2 ^ 34) c.self.inside.entries.items c.args.entry c.self.invariant c.requires)

pub invariant_of-self : goal.invariant_of-self
invariant_of-self g c = subst (λ (entries : List EntryValue). EntriesBelow (2 ^ 34) entries) (sym c.in_err-push.ensures.items) c.self.invariant
