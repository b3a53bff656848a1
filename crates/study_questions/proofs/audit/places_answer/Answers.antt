use Rattle.std.proofs.Common.{ap, List, ◌∙◌}
use Rattle.audit_places.specs.Places.{PlaceValue}
use Rattle.network_names.specs.Names.{called}
use Rattle.study_answers.specs.Answers.{accepted_answer}
use Rattle.study_questions.specs.AuditAnswers.{places_answer, places_reply}
use Rattle.study_questions.proofs.audit.places_answer.Goals as goal

pub returns : goal.returns
unfolding places_answer
returns g c =
    let reply = λ (places : List PlaceValue). accepted_answer (places_reply (called c.args.names.now) c.args.branch c.args.kind places) in
    c.accepted.ensures ∙ (ap accepted_answer c.in_ok-text.ensures ∙ ap reply (c.deref.ensures.value ∙ c.in_ok-places.ensures))
