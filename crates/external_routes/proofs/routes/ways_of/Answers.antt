use Rattle.std.proofs.Common.{List, [], ◌++◌, subst, ◌∙◌}
use Rattle.std.specs.List.{cons_option, filter_map}
use Rattle.std.proofs.lemmas.List.{take_all}
use Rattle.lsa_codec.specs.Prefix.{Net}
use Rattle.best_ways.specs.Best.{Gathers}
use Rattle.best_ways.specs.Candidate.{Candidate}
use Rattle.area_routes.proofs.AddsLemmas.{adds_step, filter_map_adds}
use Rattle.external_routes.specs.declared.external_lsas.ExternalLsa.{ExternalLsa}
use Rattle.external_routes.specs.steps.Lookup.{WaysInside}
use Rattle.external_routes.specs.steps.Paths.{candidate_of}
use Rattle.external_routes.proofs.routes.ways_of.Goals as goal

pub loop-lsa-preserved : goal.loop-lsa-preserved
loop-lsa-preserved g c =
    let same = c.loop-lsa.invariant.0 in
    let inside = c.args.inside.now in
    let added = subst (λ (w : WaysInside). (cs : List (Candidate Net)) → Gathers cs c.loop-lsa.ways
    → Gathers (cs ++ cons_option (candidate_of c.args.router w.routes w.entries c.lsa-item.result) []) c.add_external_candidate.new.ways)
    same c.in_ok-add_external_candidate.ensures.candidate in (
      c.in_ok-add_external_candidate.ensures.same ∙ same,
      adds_step (filter_map_adds (candidate_of c.args.router inside.routes inside.entries)) (λ cs. Gathers cs c.loop-lsa.ways)
          (λ cs. Gathers cs c.add_external_candidate.new.ways) c.args.lsas.now c.loop-lsa.lsa-index c.lsa-item.result c.loop-lsa-test.true c.lsa-item.is
          c.loop-lsa.invariant.1 added,
    )

pub returns : goal.returns
returns g c =
    subst (λ (lsas : List ExternalLsa). Gathers (filter_map (candidate_of c.args.router c.args.inside.now.routes c.args.inside.now.entries) lsas) c.loop-lsa.ways)
    (take_all c.loop-lsa.lsa-index c.args.lsas.now c.loop-lsa-test.false) c.loop-lsa.invariant.1
