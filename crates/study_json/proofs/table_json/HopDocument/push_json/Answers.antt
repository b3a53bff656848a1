use Rattle.next_hops.specs.Hop.{hop_text}
use Rattle.study_json.proofs.Plain.{between_quotes, hop_plain}
use Rattle.study_json.proofs.table_json.HopDocument.push_json.Goals as goal

pub returns-clause-pushed : goal.returns-clause-pushed
returns-clause-pushed g c =
    between_quotes c.push_word.result c.args.text.now.items _ (hop_text c.args.self.now) _ _ (hop_plain c.args.self.now)
    c.in_ok-extend_from_slice.ensures.items c.in_ok-push_hop.ensures c.push_word.ensures
