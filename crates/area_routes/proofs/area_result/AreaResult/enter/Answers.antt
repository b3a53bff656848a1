use Rattle.std.proofs.Common.{◌<◌, ◌^◌, List, sym, subst}
use Rattle.std.proofs.lemmas.List.Elements.{All-push}
use Rattle.area_routes.specs.Values.{EntryValue, EntriesBelow}
use Rattle.area_routes.proofs.area_result.AreaResult.enter.Goals as goal

pub invariant_of-self-2 : goal.invariant_of-self-2
invariant_of-self-2 g c = record {
  below = record {
    offers = c.self.invariant.below.offers;
    entries = subst (λ (entries : List EntryValue). EntriesBelow (2 ^ 33) entries) (sym c.in_ok-push.ensures.items)
        (All-push (λ (e : EntryValue). e.cost < 2 ^ 33) c.self.inside.entries.items
        (record { router = c.args.router; area = c.self.inside.area; kind = c.args.kind; cost = c.args.cost; hops = c.args.hops })
        c.self.invariant.below.entries c.requires);
  };
  sorted = c.self.invariant.sorted;
  intra = c.self.invariant.intra;
}
