use Rattle.std.specs.Prelude.{slice_get}
use Rattle.lsa_codec.specs.declared.address.AreaId.{AreaId}
use Rattle.lsa_codec.specs.Spelling.{address_text}
use Rattle.next_hops.specs.Hop.{hop_text}
use Rattle.study_json.proofs.Numberless.{string_has, strings_have}
use Rattle.study_json.proofs.Outcomes.{always}
use Rattle.study_json.proofs.table_json.push_ways.Goals as goal

pub returns-clause-numbers : goal.returns-clause-numbers
returns-clause-numbers g c =
    always c.push_word.result
    (string_has (λ (a : AreaId). address_text a.0) (slice_get c.args.route.now.areas 0), (strings_have hop_text c.args.route.now.hops, tt))
