use Rattle.std.proofs.Common.{◌++◌, ap, ◌∙◌}
use Rattle.std.proofs.lemmas.Result.{IfOk-weaker}
use Rattle.lsa_codec.specs.Decoding.{decoded}
use Rattle.frr_text.specs.ParsedParts.{parsed_decoded}
use Rattle.frr_json.specs.Opaque.{parsed_with}
use Rattle.frr_json.proofs.opaque.parsed_with.Goals as goal

pub returns-in-Some : goal.returns-in-Some
returns-in-Some g c =
    let found = rw c.in-Some.is at c.in_ok-information.ensures in
    IfOk-weaker c.joined.result _ _
    (λ parsed h. h ∙ ap (λ bytes. parsed_decoded c.args.area c.args.key (decoded (c.args.header ++ bytes))) c.deref.ensures.value
    ∙ ap (parsed_with c.args.area c.args.key c.args.header) found)
    c.joined.ensures
