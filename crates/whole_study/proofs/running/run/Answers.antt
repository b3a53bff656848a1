use Rattle.std.proofs.Common.{◌≡◌, ap}
use Rattle.study_session.specs.Studies.{study_of}
use Rattle.whole_study.specs.steps.Texts.{given_in, lines_in}
use Rattle.whole_study.proofs.RunEnds.{ended_for, inputs_for, prefix_for, untouched_after}
use Rattle.whole_study.proofs.running.run.Goals as goal

pub run_studies-requires-clause-short : goal.run_studies-requires-clause-short
run_studies-requires-clause-short g c = rw c.deref.ensures.value c.in_ok-texts.ensures.within

pub returns-clause-ended : goal.returns-clause-ended
returns-clause-ended g c = λ given have.
    ended_for c.args.manner (given_in c.in_ok-texts.texts) given (study_of c.in_ok-session.session) _ (c.in_ok-texts.ensures.whole given have)
    (ap lines_in c.deref.ensures.value) c.in_ok-session.ensures.begins c.args.manner _ _ _ _ _ c.run_studies.ensures.ended

pub returns-clause-prefix : goal.returns-clause-prefix
returns-clause-prefix g c = λ given have.
    prefix_for c.args.manner (given_in c.in_ok-texts.texts) given (study_of c.in_ok-session.session) _ (c.in_ok-texts.ensures.whole given have)
    (ap lines_in c.deref.ensures.value) c.in_ok-session.ensures.begins _ c.args.manner.keep_going _ _ _ _ c.run_studies.ensures.prefix

pub returns-clause-inputs : goal.returns-clause-inputs
returns-clause-inputs g c = λ given have.
    inputs_for c.args.manner (given_in c.in_ok-texts.texts) given (study_of c.in_ok-session.session) (lines_in c.deref.result.now)
    (c.in_ok-texts.ensures.whole given have) (ap lines_in c.deref.ensures.value) c.in_ok-session.ensures.begins _ c.in_ok-texts.ensures.much
    c.run_studies.ensures.fault

pub returns-clause-untouched : goal.returns-clause-untouched
returns-clause-untouched g c =
    untouched_after c.run_studies.result (c.run_studies.new.output ≡ c.args.output.now) c.run_studies.ensures.fault
