use Rattle.std.proofs.Common.{◌<◌, List, length}
use Rattle.std.proofs.lemmas.Result.{err_from_is_err_and}
use Rattle.lsa_instances.specs.declared.place.Scope.{Scope}
use Rattle.lsa_instances.specs.declared.place.Scope.TheVariants.{Area}
use Rattle.lsdb_merge.specs.Joining.{section}
use Rattle.lsdb_merge.proofs.Sections.{overfull_at}
use Rattle.lsdb_merge.proofs.section.put_sections.Goals as goal

pub returns-in_err-put_section-clause-fault : goal.returns-in_err-put_section-clause-fault
returns-in_err-put_section-clause-fault g c =
    let p = err_from_is_err_and c.from_residual.result c.from_residual.ensures.1 in
    let all : List Scope = c.args.scopes.now in
    let i = c.loop-scope.scope-index in
    let l : i < length all = c.loop-scope-test.true in
    rw (p.1, p.2) (overfull_at (section c.args.areas.now c.args.newest.now) all i (Area (record { 0 = 0 })) c.in_err-put_section.field-0.0 l c.in_err-put_section.ensures.fault)
