use Rattle.std.proofs.Common.{◌≡◌, ◌++◌, take}
use Rattle.std.specs.List.{flat_map}
use Rattle.lsa_codec.specs.Making.{link_text}
use Rattle.lsa_codec.proofs.relink.link_texts.Given as goal

abbrev pub invariant-loop-link : goal.invariant-loop-link
invariant-loop-link g l = l.bytes.items ≡ take 24 l.lsa ++ flat_map (link_text l.lsa) (take l.link-index l.kept)
