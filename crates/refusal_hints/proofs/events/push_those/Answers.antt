use Rattle.std.proofs.Common.{◌≡◌, ◌++◌, ◌∷◌, [], List, ℕ, map, refl, ap, ◌∙◌}
use Rattle.std.specs.Prelude.{codes}
use Rattle.std.proofs.lemmas.Result.{on_ok_weaker}
use Rattle.lsa_codec.specs.Spelling.{address_text}
use Rattle.lsa_codec.specs.declared.address.Addr.{Addr}
use Rattle.study_text.specs.Lists.{joined_or}
use Rattle.refusal_hints.specs.EventHints.{addresses_of}
use Rattle.refusal_hints.proofs.events.push_those.Goals as goal

-- an address has the text of its number
abbrev texts_of : List Addr → List (List ℕ)
texts_of those = map (λ (address : Addr). address_text address.0) those

same_texts : (numbers : List ℕ) → texts_of (addresses_of numbers) ≡ map address_text numbers
same_texts [] = refl
same_texts (number ∷ others) = ap (λ (texts : List (List ℕ)). address_text number ∷ texts) (same_texts others)

pub returns : goal.returns
returns g c =
    let same = ap texts_of (c.deref.ensures.value ∙ c.in_ok-those.ensures) ∙ same_texts c.args.numbers.now in
    on_ok_weaker c.push_joined_or.result
    (λ pushed. pushed ∙ ap (λ (texts : List (List ℕ)). c.args.text.now.items ++ joined_or (codes " has none") (codes " has ") (codes ", ") texts) same)
    c.push_joined_or.ensures
