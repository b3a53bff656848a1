use Rattle.std.proofs.Common.{None, ◌++◌, ◌∙◌, List, Option, ap}
use Rattle.std.specs.List.{flat_map}
use Rattle.lsdb.specs.Slots.{lists_of}
use Rattle.lsa_names.specs.declared.lsa_name.LsaName.{LsaName}
use Rattle.area_routes.proofs.AddsLemmas.{flat_map_adds}
use Rattle.link_report.proofs.PushedLemmas.{made_all, made_at}
use Rattle.audit_lsas.specs.declared.scope.AreaScope.{AreaScope}
use Rattle.audit_lsas.specs.Found.{names_in}
use Rattle.audit_lsas.proofs.found.names_of_all.Goals as goal

pub loop-scope-preserved : goal.loop-scope-preserved
loop-scope-preserved g c =
    let names = names_in (g.T.LsaTest.passes_as c.args.test.now) (lists_of c.args.database.now) in
    made_at (flat_map_adds names) c.deref-scope-items.result.now c.loop-scope.scope-index None c.loop-scope.names.items _
    c.loop-scope-test.true c.loop-scope.invariant
    (c.in_ok-append.ensures.items ∙ ap (λ (l : List LsaName). c.loop-scope.names.items ++ l) c.in_ok-more.ensures)

pub returns : goal.returns
returns g c =
    let names = names_in (g.T.LsaTest.passes_as c.args.test.now) (lists_of c.args.database.now) in
    made_all (flat_map_adds names) c.deref-scope-items.result.now c.loop-scope.scope-index c.loop-scope.names.items
    c.loop-scope-test.false c.loop-scope.invariant
    ∙ ap (λ (all : List (Option AreaScope)). flat_map names all) (c.deref-scope-items.ensures.value ∙ c.in_ok-all.ensures)
