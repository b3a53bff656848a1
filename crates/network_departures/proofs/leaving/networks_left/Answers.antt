use Rattle.std.proofs.Common.{[], ◌∷◌, ◌++◌, ◌∙◌, List, ℕ, Bool, filter, map, sym, ap}
use Rattle.std.proofs.lemmas.List.{map-append}
use Rattle.std.proofs.lemmas.List.Elements.{filter-append}
use Rattle.lsdb.specs.Slots.{lists_of}
use Rattle.network_departures.specs.Leaving.{is_left}
use Rattle.network_departures.proofs.leaving.networks_left.Goals as goal

pub loop-lsa-preserved : goal.loop-lsa-preserved
loop-lsa-preserved g c =
    let test : List ℕ → Bool = is_left (lists_of c.args.database.now) c.args.event.now c.args.area in
    c.in_ok-add_if_left.ensures
    ∙ ap (λ (l : List (List ℕ)). l ++ filter test (c.in-Some.lsa.now ∷ [])) c.loop-lsa.invariant
    ∙ sym (ap (filter test) (map-append (λ lsa. lsa.now) c.loop-lsa.yielded (c.in-Some.lsa ∷ []))
    ∙ filter-append test (map (λ lsa. lsa.now) c.loop-lsa.yielded) (c.in-Some.lsa.now ∷ []))
