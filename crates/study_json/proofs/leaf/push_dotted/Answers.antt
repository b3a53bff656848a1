use Rattle.lsa_codec.specs.Spelling.{address_text}
use Rattle.study_json.proofs.Plain.{address_plain, between_quotes}
use Rattle.study_json.proofs.leaf.push_dotted.Goals as goal

pub returns : goal.returns
returns g c =
    between_quotes c.push_word-2.result c.args.text.now.items _ (address_text c.args.number) _ _ (address_plain c.args.number)
    c.in_ok-push_word.ensures c.in_ok-push_address.ensures c.push_word-2.ensures
