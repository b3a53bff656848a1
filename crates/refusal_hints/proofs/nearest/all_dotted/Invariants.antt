use Rattle.std.proofs.Common.{◌≡◌, map, take}
use Rattle.lsa_codec.specs.Spelling.{address_text}
use Rattle.refusal_hints.proofs.nearest.all_dotted.Given as goal

-- those so far
abbrev pub invariant-loop-address : goal.invariant-loop-address
invariant-loop-address g l = map (λ text. text.items) l.texts.items ≡ map address_text (take l.address-index l.addresses)
