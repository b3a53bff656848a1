-- The neighbors over an interface, where it has at most one far end, and where it has more.
use Rattle.std.proofs.Common.{◌≡◌, ◌<◌, ◌≤◌, List, [], ◌∷◌, length, refl, arith}
use Rattle.lsa_codec.specs.declared.address.RouterId.{RouterId}
use Rattle.hop_ends.specs.Ways.{taken}

pub one_end : (far ends : List RouterId) → length far < 2 → taken far ends ≡ far
one_end [] ends few = refl
one_end (one ∷ []) ends few = refl
one_end (one ∷ two ∷ more) ends few = absurd (omega arith)

pub several_ends : (far ends : List RouterId) → 2 ≤ length far → taken far ends ≡ ends
several_ends [] ends several = absurd (omega arith)
several_ends (one ∷ []) ends several = absurd (omega arith)
several_ends (one ∷ two ∷ more) ends several = refl
