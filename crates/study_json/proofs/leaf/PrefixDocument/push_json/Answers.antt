use Rattle.std.proofs.Common.{◌≡◌, ap}
use Rattle.lsa_codec.specs.declared.address.Addr.{Addr}
use Rattle.lsa_codec.specs.Spelling.{prefix_text}
use Rattle.study_json.proofs.Plain.{between_quotes, prefix_plain, prefix_shown}
use Rattle.study_json.proofs.leaf.PrefixDocument.push_json.Goals as goal

pub returns-clause-pushed : goal.returns-clause-pushed
returns-clause-pushed g c =
    let long : c.from.result ≡ c.args.self.now.len = cc in
    between_quotes c.push_word-2.result c.args.text.now.items _ (prefix_text c.args.self.now) _ _
    (prefix_plain c.args.self.now c.len.ensures.prefix.short) c.in_ok-push_word.ensures
    (prefix_shown c.args.self.now c.addr.result.0 c.from.result _ _ _ (ap (λ (a : Addr). a.0) c.addr.ensures.addr) long
    c.in_ok-push_address.ensures c.in_ok-push_number_after.ensures) c.push_word-2.ensures
