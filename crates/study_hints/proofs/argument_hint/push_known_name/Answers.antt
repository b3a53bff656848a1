use Rattle.std.proofs.Common.{codes, map, refl, sym}
use Rattle.study_hints.specs.ArgumentHints.{or_names}
use Rattle.study_hints.specs.Near.{near}
use Rattle.study_hints.proofs.Pieces.{added, offered}
use Rattle.study_hints.proofs.argument_hint.push_known_name.Goals as goal

pub returns : goal.returns
returns g c =
    let name = c.in-Some.name.now.now in
    let begun = c.extend_from_slice-2.new.self.items in
    offered (or_names c.args.otherwise.now) (codes "names have ") name (near c.args.word.now (map (λ known. known.now) c.args.known.now)) name
    (sym c.in-Some.ensures) refl c.extend_from_slice-3.result c.args.text.now.items begun _ c.in_ok-extend_from_slice.ensures.items
    (added c.extend_from_slice-3.result begun name name _ refl c.extend_from_slice-3.ensures.items)
