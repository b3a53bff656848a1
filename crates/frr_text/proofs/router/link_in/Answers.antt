use Rattle.std.proofs.Common.{sym, ◌∙◌}
use Rattle.frr_text.specs.Words.{words}
use Rattle.frr_text.specs.Bodies.{link_types, link_as}
use Rattle.frr_text.proofs.Reading.{first_found, first_passed, first_missed}
use Rattle.frr_text.proofs.router.link_in.Goals as goal

pub returns-in-Some : goal.returns-in-Some
returns-in-Some c =
    sym (first_found link_as link_types c.loop-link_type.link_type-index _ (words c.args.text.now) (c.in-Some.link, words c.in-Some.rest.now)
    c.loop-link_type-test.true (sym c.in-Some.ensures))
    ∙ c.loop-link_type.invariant

pub loop-link_type-preserved : goal.loop-link_type-preserved
loop-link_type-preserved c =
    sym (first_passed link_as link_types c.loop-link_type.link_type-index _ (words c.args.text.now) c.loop-link_type-test.true (sym c.in_default.ensures))
    ∙ c.loop-link_type.invariant

pub returns : goal.returns
returns c =
    sym (first_missed link_as link_types c.loop-link_type.link_type-index (words c.args.text.now) c.loop-link_type-test.false)
    ∙ c.loop-link_type.invariant
