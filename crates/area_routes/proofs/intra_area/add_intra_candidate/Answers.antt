use Rattle.std.proofs.Common.{◌++◌, [], ◌∷◌, List, Some, OnOk, ap, subst, ◌∙◌}
use Rattle.lsa_codec.specs.Prefix.{Net}
use Rattle.next_hops.specs.declared.hop.Hop.{Hop}
use Rattle.best_ways.specs.declared.rank.PathType.TheVariants.{Intra}
use Rattle.best_ways.specs.Best.{Gathers}
use Rattle.best_ways.specs.Candidate.{Candidate}
use Rattle.area_routes.specs.Intra.{intra_candidate}
use Rattle.best_ways.specs.Values.{RouteValue}
use Rattle.area_routes.specs.steps.OneArea.{offered}
use Rattle.area_routes.proofs.intra_area.add_intra_candidate.Goals as goal

pub returns : goal.returns
returns g c =
    let P : Candidate Net → Type 0 = λ x. OnOk c.add_candidate.result
    ((cs : List (Candidate Net)) → Gathers cs c.args.ways.now → Gathers (cs ++ x ∷ []) c.add_candidate.new.self) in
    let with_hops : List Hop → Candidate Net = λ hops. record {
      key = c.route.inside.net;
      rank = record { path = Intra; cost2 = 0; class = 0; cost = c.route.inside.cost };
      area =
          Some c.args.area;
      hops = hops;
    } in
    subst P (ap with_hops c.as_slice.ensures.hops ∙ ap (λ (r : RouteValue). intra_candidate c.args.area (offered r)) c.route.view_is) c.add_candidate.ensures.added
