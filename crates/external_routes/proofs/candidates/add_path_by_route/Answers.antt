use Rattle.std.proofs.Common.{◌++◌, [], ◌∷◌, List, ℕ, None, OnOk, ap, map, subst, ◌∙◌}
use Rattle.lsa_codec.specs.Prefix.{Net}
use Rattle.lsa_codec.specs.declared.address.Addr.{Addr}
use Rattle.next_hops.specs.Hop.{extended}
use Rattle.next_hops.specs.declared.hop.Hop.{Hop}
use Rattle.best_ways.specs.Best.{Gathers}
use Rattle.best_ways.specs.Candidate.{Candidate}
use Rattle.best_ways.specs.Values.{RouteValue}
use Rattle.best_ways.specs.declared.rank.Rank.{Rank}
use Rattle.external_routes.specs.Choose.{route_class}
use Rattle.external_routes.specs.steps.Paths.{path}
use Rattle.external_routes.proofs.candidates.add_path_by_route.Goals as goal

pub returns : goal.returns
returns g c =
    let lsa = c.args.lsa.now in
    let P : Candidate Net → Type 0 = λ x. OnOk c.add_candidate_onward.result
    ((cs : List (Candidate Net)) → Gathers cs c.args.ways.now → Gathers (cs ++ x ∷ []) c.add_candidate_onward.new.self) in
    let at : Net → Rank → List Hop → Candidate Net = λ net rank hops. record { key = net; rank = rank; area = None; hops = hops } in
    let on : Addr → List Hop → List Hop = λ address hops. map (λ hop. extended hop address) hops in
    subst P
    (ap (λ (rank : Rank). at (lsa.net) rank (on lsa.forward c.as_slice.result.now)) c.rank-rank.ensures
    ∙ ap (λ (hops : List Hop). path lsa c.route_class.result c.route.inside.cost (on lsa.forward hops)) c.as_slice.ensures.hops
    ∙ ap (λ (class : ℕ). path lsa class c.route.inside.cost (on lsa.forward c.route.inside.hops)) c.route_class.ensures
    ∙ ap (λ (r : RouteValue). path lsa (route_class c.args.route.now) r.cost (on lsa.forward r.hops)) c.route.view_is)
    c.add_candidate_onward.ensures.added
