use Rattle.std.proofs.Common.{◌==◌, ℕ, List, [], refl, arith}
use Rattle.std.specs.List.{slice_split}
use Rattle.std.proofs.lemmas.Result.{err_from_is_err_and}
use Rattle.network_names.specs.File.{names_in, with_line}
use Rattle.network_names.proofs.FileSteps.{is_fault_along, last_line, line_fault, line_next}
use Rattle.network_names.proofs.file.read_names.Goals as goal

abbrev lines : List ℕ → List (List ℕ)
lines text = slice_split (λ b. b == 10) text

pub loop-front-init : goal.loop-front-init
loop-front-init g c = record { number = omega arith; left = record { all = []; same = refl; are = c.new-names.ensures } }

pub loop-front-preserved : goal.loop-front-preserved
loop-front-preserved g c = record {
  number = omega (arith, c.in-Some.ensures.1);
  left = line_next (lines c.args.text.now) c.loop-front.line (lines c.loop-front.rest.now) c.loop-front.names c.loop-front.invariant.left
      c.in-Some.front.now (lines c.in-Some.after.now) _ c.in-Some.ensures.0
      (c.in_ok-add_line.ensures c.loop-front.invariant.left.all c.loop-front.invariant.left.are);
}

pub returns-in_err-add_line : goal.returns-in_err-add_line
unfolding names_in
returns-in_err-add_line g c =
    let p = err_from_is_err_and c.from_residual.result c.from_residual.ensures.1 in
    rw (p.1, p.2)
    (is_fault_along _ (with_line c.loop-front.line c.loop-front.invariant.left.all c.in-Some.front.now) (names_in c.args.text.now)
    (λ fault. line_fault (lines c.args.text.now) c.loop-front.line (lines c.loop-front.rest.now) c.loop-front.names c.loop-front.invariant.left
    c.in-Some.front.now (lines c.in-Some.after.now) fault c.in-Some.ensures.0)
    (c.in_err-add_line.ensures c.loop-front.invariant.left.all c.loop-front.invariant.left.are))

pub returns-in_err-add_line-2 : goal.returns-in_err-add_line-2
unfolding names_in
returns-in_err-add_line-2 g c =
    let p = err_from_is_err_and c.from_residual-in_err-add_line-2.result c.from_residual-in_err-add_line-2.ensures.1 in
    rw (p.1, p.2)
    (is_fault_along _ (with_line c.loop-front.line c.loop-front.invariant.left.all c.loop-front.rest.now) (names_in c.args.text.now)
    (λ fault. line_fault (lines c.args.text.now) c.loop-front.line (lines c.loop-front.rest.now) c.loop-front.names c.loop-front.invariant.left
    c.loop-front.rest.now [] fault c.in_default.ensures)
    (c.in_err-add_line-2.ensures c.loop-front.invariant.left.all c.loop-front.invariant.left.are))

pub returns : goal.returns
unfolding names_in
returns g c =
    last_line (lines c.args.text.now) c.loop-front.line (lines c.loop-front.rest.now) c.loop-front.names c.loop-front.invariant.left
    c.loop-front.rest.now _ c.in_default.ensures
    (c.in_ok-add_line-2.ensures c.loop-front.invariant.left.all c.loop-front.invariant.left.are)
