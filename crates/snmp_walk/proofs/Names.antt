-- The arcs of words, one word after another.
use Rattle.std.proofs.Common.{◌≡◌, ℕ, List, [], ◌∷◌, ◌++◌, Some, None, ap}
use Rattle.snmp_walk.specs.Names.{◌>>=◌, arc_of, arcs_after}

pub arc_read : (arcs word : List ℕ) (words : List (List ℕ)) (arc : ℕ) → arc_of word ≡ Some arc
    → arcs_after arcs (word ∷ words) ≡ arcs_after (arcs ++ arc ∷ []) words
unfolding arcs_after
arc_read arcs word words arc h = ap (λ x. x >>= (λ arc. arcs_after (arcs ++ arc ∷ []) words)) h

pub last_read : (arcs word : List ℕ) (arc : ℕ) → arc_of word ≡ Some arc → arcs_after arcs (word ∷ []) ≡ Some (arcs ++ arc ∷ [])
unfolding arcs_after
last_read arcs word arc h = ap (λ x. x >>= (λ arc. arcs_after (arcs ++ arc ∷ []) [])) h

pub unread : (arcs word : List ℕ) (words : List (List ℕ)) → arc_of word ≡ None → arcs_after arcs (word ∷ words) ≡ None
unfolding arcs_after
unread arcs word words h = ap (λ x. x >>= (λ arc. arcs_after (arcs ++ arc ∷ []) words)) h
