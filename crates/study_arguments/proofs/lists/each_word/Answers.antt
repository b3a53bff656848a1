use Rattle.std.proofs.Common.{sym, ap, ◌∙◌}
use Rattle.std.proofs.lemmas.Result.{err_from_is_err_and}
use Rattle.edit_script.specs.Words.{words}
use Rattle.network_names.specs.Names.{stands_for}
use Rattle.study_arguments.specs.Lists.{each}
use Rattle.study_arguments.proofs.EachWord.{each_end, each_fault, each_next, prepend}
use Rattle.study_arguments.proofs.lists.each_word.Goals as goal

pub returns-in_err-value : goal.returns-in_err-value
returns-in_err-value g c =
    let p = err_from_is_err_and c.from_residual.result c.from_residual.ensures.1 in
    rw (p.1, p.2)
    (c.loop-at.invariant
    ∙ each_fault (g.T.Argument.means (stands_for c.args.names.now)) c.loop-at.values.items (words c.loop-at.rest.now) c.in-Some.at.word.now
    (words c.in-Some.at.rest.now) c.in-Some.ensures.value.0 _ c.in_err-value.ensures)

pub loop-at-preserved : goal.loop-at-preserved
loop-at-preserved g c =
    c.loop-at.invariant
    ∙ each_next (g.T.Argument.means (stands_for c.args.names.now)) c.loop-at.values.items (words c.loop-at.rest.now) c.in-Some.at.word.now
    (words c.in-Some.at.rest.now) c.in-Some.ensures.value.0 c.in_ok-value.value c.in_ok-value.ensures
    ∙ ap (λ xs. prepend xs (each (g.T.Argument.means (stands_for c.args.names.now)) (words c.in-Some.at.rest.now))) (sym c.in_ok-push.ensures.items)

pub returns : goal.returns
returns g c =
    c.loop-at.invariant
    ∙ each_end (g.T.Argument.means (stands_for c.args.names.now)) c.loop-at.values.items (words c.loop-at.rest.now) c.in_default.ensures.value
