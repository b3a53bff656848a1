-- What a writer took of a text, and of several texts in turn.
use Rattle.std.proofs.Common.{◌≡◌, ℕ, ◌+◌, ◌-◌, List, ◌++◌, Option, ap, subst, sym, ◌∙◌, length, take, drop, append_assoc}
use Rattle.std.proofs.Math.Seq.{take-add, take-append_seam}
use Rattle.std.proofs.lemmas.List.{take_rest}
use Rattle.std.specs.Io.{StartsWith}
use Rattle.std.specs.Io.KnownBytes.{Appends}
use Rattle.std.proofs.KnownBytes.{Appends-trans, starts_with_rest}
use Rattle.host_io.specs.WholeText.{AppendsPrefix}

-- a text starts with its first part
pub starts_with_front : (text part rest : List ℕ) → text ≡ part ++ rest → StartsWith text part
starts_with_front text part rest whole = ap (take (length part)) whole ∙ take-append_seam part rest

-- the first n bytes of a text were taken, and then m bytes of its rest
pub Appends-take : (a b c : Option (List ℕ)) (text : List ℕ) (n m : ℕ) → Appends a b (take n text)
    → Appends b c (take m (take (length text - n) (drop n text))) → Appends a c (take (n + m) text)
Appends-take a b c text n m first second =
    subst (Appends a c) (sym (take-add n m text))
    (Appends-trans a b c _ _ first (subst (λ rest. Appends b c (take m rest)) (take_rest text n) second))

-- the front of a text was taken, and then a prefix of what follows it; for callers that write a text by parts
pub AppendsPrefix-after : (a b c : Option (List ℕ)) (all front middle rest : List ℕ) → all ≡ front ++ (middle ++ rest)
    → Appends a b front → AppendsPrefix b c middle → AppendsPrefix a c all
AppendsPrefix-after a b c all front middle rest whole before (part, (starts, taken)) =
    let left = drop (length part) middle in
    let joined : all ≡ (front ++ part) ++ (left ++ rest) =
    whole ∙ ap (λ l. front ++ (l ++ rest)) (starts_with_rest middle part starts)
    ∙ ap (λ l. front ++ l) (append_assoc part left rest) ∙ sym (append_assoc front part (left ++ rest)) in
    (front ++ part, (starts_with_front all (front ++ part) (left ++ rest) joined, Appends-trans a b c _ _ before taken))
