use Rattle.std.proofs.Common.{◌++◌, ap, ◌∙◌}
use Rattle.std.proofs.lemmas.Result.{IfOk-weaker}
use Rattle.lsa_codec.specs.Decoding.{decoded}
use Rattle.frr_text.specs.Making.{header_bytes, key_of}
use Rattle.frr_text.specs.ParsedParts.{parsed_decoded, rebuilt}
use Rattle.frr_text.proofs.parsed_part.parsed_body.Goals as goal

pub returns-in-Some : goal.returns-in-Some
returns-in-Some g c =
    let found = rw c.in-Some.is at c.in_ok-body.ensures in
    IfOk-weaker c.rebuilt.result _ _
    (λ parsed h. h ∙ ap (λ bytes. parsed_decoded c.args.area (key_of c.args.header) (decoded (header_bytes c.args.header ++ bytes))) c.deref.ensures.value
    ∙ ap (rebuilt c.args.area c.args.header) found)
    c.rebuilt.ensures
