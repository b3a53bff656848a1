use Rattle.std.proofs.Common.{rules, subst}
use Rattle.std.specs.String.{string_bytes}
use Rattle.capture_lines.specs.Reports.{HaveFileTexts}
use Rattle.capture_lines.proofs.Pairs.{file_more, next_pair, no_pair}
use Rattle.capture_lines.proofs.report.Report.of_files.Goals as goal

pub loop-name-preserved : goal.loop-name-preserved
loop-name-preserved g c =
    file_more _ _ _ _ _ _ _ _ _ _
    (next_pair c.args.names.now c.args.files.now c.loop-name.yielded c.into_iter-name-iterator.result c.loop-name.name-iterator c.next.new.self
    c.next.result (search rules) (search rules) c.loop-name.yielded_by c.next.ensures.steps c.in-Some.name c.in-Some.file c.in-Some.is)
    c.loop-name.invariant c.in_ok-put_file.ensures

pub returns : goal.returns
returns g c =
    let report = c.loop-name.report in
    subst (λ given. HaveFileTexts given (string_bytes report.files) (string_bytes report.notices) (string_bytes report.warnings))
    (no_pair c.args.names.now c.args.files.now c.loop-name.yielded c.into_iter-name-iterator.result c.loop-name.name-iterator c.next.new.self
    c.next.result (search rules) (search rules) c.loop-name.yielded_by c.next.ensures.steps c.in-None.is)
    c.loop-name.invariant
