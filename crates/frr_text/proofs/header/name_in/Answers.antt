use Rattle.std.proofs.Common.{sym, ◌∙◌}
use Rattle.frr_text.specs.Words.{words}
use Rattle.frr_text.specs.Fields.{ls_types, name_as}
use Rattle.frr_text.proofs.Reading.{first_found, first_passed, first_missed}
use Rattle.frr_text.proofs.header.name_in.Goals as goal

pub returns-in-Some : goal.returns-in-Some
returns-in-Some c =
    sym (first_found name_as ls_types c.loop-ls_type.ls_type-index _ (words c.args.text.now) (c.in-Some.name, words c.in-Some.rest.now)
    c.loop-ls_type-test.true (sym c.in-Some.ensures))
    ∙ c.loop-ls_type.invariant

pub loop-ls_type-preserved : goal.loop-ls_type-preserved
loop-ls_type-preserved c =
    sym (first_passed name_as ls_types c.loop-ls_type.ls_type-index _ (words c.args.text.now) c.loop-ls_type-test.true (sym c.in_default.ensures))
    ∙ c.loop-ls_type.invariant

pub returns : goal.returns
returns c =
    sym (first_missed name_as ls_types c.loop-ls_type.ls_type-index (words c.args.text.now) c.loop-ls_type-test.false)
    ∙ c.loop-ls_type.invariant
