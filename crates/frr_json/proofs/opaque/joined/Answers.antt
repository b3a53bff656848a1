use Rattle.std.proofs.Common.{ℕ, List, ◌++◌, ap, ◌∙◌}
use Rattle.std.proofs.lemmas.Result.{IfOk-weaker}
use Rattle.lsa_codec.specs.Decoding.{decoded}
use Rattle.frr_text.specs.ParsedParts.{parsed_decoded}
use Rattle.frr_json.proofs.opaque.joined.Goals as goal

pub returns : goal.returns
returns g c =
    IfOk-weaker c.parsed_bytes.result _ _
    (λ parsed h. h ∙ ap (λ bytes. parsed_decoded c.args.area c.args.key (decoded bytes))
    (c.deref.ensures.value ∙ c.in_ok-extend_from_slice.ensures.items
    ∙ ap (λ (front : List ℕ). front ++ c.args.information.now) c.in_ok-bytes.ensures.items))
    c.parsed_bytes.ensures
