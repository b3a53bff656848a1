use Rattle.std.proofs.Common.{◌≡◌, ◌++◌, [], Some, Option, subst, sym, ◌∙◌}
use Rattle.std.specs.List.{cons_option}
use Rattle.std.specs.Option.{option_and_then}
use Rattle.lsa_codec.specs.declared.address.RouterId.{RouterId}
use Rattle.best_ways.specs.Best.{Gathers}
use Rattle.area_routes.specs.Inter.{announced_asbr, candidate_to}
use Rattle.area_routes.proofs.inter_area.add_asbr_candidate.Goals as goal

pub returns-in_ok-add_summary_candidate : goal.returns-in_ok-add_summary_candidate
returns-in_ok-add_summary_candidate g c = λ cs before.
    let announced : Some c.in-Some.asbr ≡ announced_asbr c.args.router c.args.area.now c.args.lsa.now = sym c.in-Some.is ∙ c.announced_asbr.ensures in
    let P : Option RouterId → Type 0 = λ o. Gathers
    (cs ++ cons_option (option_and_then (candidate_to c.args.router c.args.area.now c.args.lsa.now) o) []) c.add_summary_candidate.new.ways in
    subst P announced (c.in_ok-add_summary_candidate.ensures cs before)
