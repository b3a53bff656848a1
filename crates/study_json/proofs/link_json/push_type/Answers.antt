use Rattle.std.proofs.Common.{◌≡◌, ◌++◌, codes, decimal, ap, ◌∙◌, arith}
use Rattle.study_json.proofs.Plain.{between_quotes, type_plain}
use Rattle.study_json.proofs.link_json.push_type.Goals as goal

pub returns : goal.returns
returns g c =
    let same : c.from.result ≡ c.args.code = cc in
    between_quotes c.push_word-2.result c.args.text.now.items _ (codes "type " ++ decimal c.args.code) _ _
    (type_plain c.args.code (omega arith)) c.in_ok-push_word.ensures
    (c.in_ok-push_number_after.ensures ∙ ap (λ n. c.push_word.new.text.items ++ (codes "type " ++ decimal n)) same)
    c.push_word-2.ensures
