use Rattle.std.proofs.Common.{codes, refl, sym}
use Rattle.lsa_codec.specs.Spelling.{prefix_text}
use Rattle.study_hints.specs.ArgumentHints.{or_prefix, without_host_bits}
use Rattle.study_hints.proofs.Pieces.{offered}
use Rattle.study_hints.proofs.argument_hint.push_prefix_hint.Goals as goal

pub returns : goal.returns
returns g c =
    offered or_prefix (codes "without host bits ") (prefix_text c.in-Some.net) (without_host_bits c.args.word.now) c.in-Some.net
    (sym c.in-Some.ensures) refl c.push_prefix.result c.args.text.now.items _ _ c.in_ok-extend_from_slice.ensures.items c.push_prefix.ensures
