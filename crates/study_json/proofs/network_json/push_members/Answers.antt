use Rattle.lsa_codec.specs.declared.address.RouterId.{RouterId}
use Rattle.lsa_codec.specs.Spelling.{address_text}
use Rattle.study_json.proofs.Numberless.{strings_have}
use Rattle.study_json.proofs.Outcomes.{always}
use Rattle.study_json.proofs.network_json.push_members.Goals as goal

pub returns-clause-numbers : goal.returns-clause-numbers
returns-clause-numbers g c =
    always c.push_word.result (
      strings_have (λ (r : RouterId). address_text r.0) c.args.line.now.members,
      (strings_have (λ (r : RouterId). address_text r.0) c.args.line.now.one_way, tt),
    )
