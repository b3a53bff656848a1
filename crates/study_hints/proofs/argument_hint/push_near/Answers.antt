use Rattle.std.proofs.Common.{codes, map, refl, sym}
use Rattle.study_hints.specs.ArgumentHints.{or_near}
use Rattle.study_hints.specs.Near.{near}
use Rattle.study_hints.proofs.Pieces.{added, offered}
use Rattle.study_hints.proofs.argument_hint.push_near.Goals as goal

pub returns : goal.returns
returns g c =
    let written = g.T.Candidate.written in
    let word = written c.in-Some.found.now in
    let begun = c.extend_from_slice-2.new.self.items in
    offered (λ found. or_near found c.args.otherwise.now) (codes "did you mean ") word (near c.args.word.now (map written c.args.candidates.now)) word
    (sym c.in-Some.ensures) refl c.extend_from_slice-3.result c.args.text.now.items begun _ c.in_ok-extend_from_slice.ensures.items
    (added c.extend_from_slice-3.result begun c.bytes.result.now word _ c.bytes.ensures c.extend_from_slice-3.ensures.items)
