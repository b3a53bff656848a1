use Rattle.std.proofs.Common.{◌++◌, [], ◌∷◌, List, ℕ, None, OnOk, ap, subst, ◌∙◌}
use Rattle.lsa_codec.specs.Prefix.{Net}
use Rattle.next_hops.specs.declared.hop.Hop.{Hop}
use Rattle.best_ways.specs.Best.{Gathers}
use Rattle.best_ways.specs.Candidate.{Candidate}
use Rattle.area_routes.specs.Values.{EntryValue}
use Rattle.best_ways.specs.declared.rank.Rank.{Rank}
use Rattle.external_routes.specs.Choose.{entry_class}
use Rattle.external_routes.specs.steps.Paths.{path}
use Rattle.external_routes.proofs.candidates.add_path_by_entry.Goals as goal

pub returns : goal.returns
returns g c =
    let lsa = c.args.lsa.now in
    let P : Candidate Net → Type 0 = λ x. OnOk c.add_candidate.result
    ((cs : List (Candidate Net)) → Gathers cs c.args.ways.now → Gathers (cs ++ x ∷ []) c.add_candidate.new.self) in
    let at : Net → Rank → List Hop → Candidate Net = λ net rank hops. record { key = net; rank = rank; area = None; hops = hops } in
    subst P
    (ap (λ (rank : Rank). at (lsa.net) rank c.as_slice.result.now) c.rank-rank.ensures
    ∙ ap (λ (hops : List Hop). path lsa c.entry_class.result c.entry.inside.cost hops) c.as_slice.ensures.hops
    ∙ ap (λ (class : ℕ). path lsa class c.entry.inside.cost c.entry.inside.hops) c.entry_class.ensures
    ∙ ap (λ (e : EntryValue). path lsa (entry_class c.args.entry.now) e.cost e.hops) c.entry.view_is) c.add_candidate.ensures.added
