-- What a result of several steps shows of each step.
use Rattle.std.proofs.Common.{◌≡◌, Option, Some, None, refl}
use Rattle.text_words.specs.Options.{◌>>=◌}

pub then_some : {A B : Type 0} (o : Option A) (f : A → Option B) (y : B) → (o >>= f) ≡ Some y → (x : A) × ((o ≡ Some x) × (f x ≡ Some y))
then_some (Some x) f y h = (x, (refl, h))
then_some None f y h = absurd cc
