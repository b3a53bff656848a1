use Rattle.std.proofs.Common.{refl}
use Rattle.std.proofs.lemmas.Result.{err_from_is_err_and}
use Rattle.network_names.specs.Words.{words}
use Rattle.network_names.proofs.FileSteps.{is_fault_along, name_fault, name_next, names_end}
use Rattle.network_names.proofs.lines.add_names.Goals as goal
use Rattle.network_names.specs.File.{with_name, with_names}

pub loop-name-init : goal.loop-name-init
loop-name-init g c = λ all are. record { all = all; same = refl; are = are }

pub loop-name-preserved : goal.loop-name-preserved
loop-name-preserved g c = λ all are.
    let so_far = c.loop-name.invariant all are in
    name_next c.args.line c.args.address all (words c.args.text.now) (words c.loop-name.rest.now) c.loop-name.names so_far
    c.in-Some.name.now (words c.in-Some.after.now) _ c.in-Some.ensures.value.0 (c.in_ok-add_name.ensures so_far.all so_far.are)

pub returns-in_err-add_name : goal.returns-in_err-add_name
returns-in_err-add_name g c = λ all are.
    let so_far = c.loop-name.invariant all are in
    let p = err_from_is_err_and c.from_residual.result c.from_residual.ensures.1 in
    rw (p.1, p.2)
    (is_fault_along _ (with_name c.args.line so_far.all c.args.address c.in-Some.name.now) (with_names c.args.line all c.args.address (words c.args.text.now))
    (λ fault. name_fault c.args.line c.args.address all (words c.args.text.now) (words c.loop-name.rest.now) c.loop-name.names so_far
    c.in-Some.name.now (words c.in-Some.after.now) fault c.in-Some.ensures.value.0)
    (c.in_err-add_name.ensures so_far.all so_far.are))

pub returns : goal.returns
returns g c = λ all are.
    names_end c.args.line c.args.address all (words c.args.text.now) (words c.loop-name.rest.now) c.loop-name.names (c.loop-name.invariant all are) c.in_default.ensures.value
