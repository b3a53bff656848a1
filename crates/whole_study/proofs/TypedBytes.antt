-- A line that is begun, and how its reading ends.
use Rattle.std.proofs.Common.{◌≡◌, ◌∙◌, sym, ℕ, ◌+◌, ◌<◌, ◌≤◌, List, [], ◌∷◌, ◌++◌, length, length-append, Option, Result, Ok, Err, arith}
use Rattle.std.specs.Prelude.{IfErr}
use Rattle.std.specs.Io.KnownBytes.{Consumes}
use Rattle.std.proofs.KnownBytes.{Consumes-nil, Consumes-trans}
use Rattle.whole_study.specs.steps.Typing.{IsBegun}
use Rattle.whole_study.specs.declared.fault.RunFault.{RunFault}
use Rattle.whole_study.specs.declared.fault.RunFault.TheVariants.{Read, Write, TooLarge}

-- too much was typed
pub begun_long : {A : Type 0} (limit : ℕ) (old mid new : Option (List ℕ)) (part : List ℕ) (byte : ℕ) (fault : RunFault A) → fault ≡ TooLarge
    → Consumes old mid part → Consumes mid new (byte ∷ []) → limit ≤ length part → IsBegun limit old new fault
begun_long limit old mid new part byte fault is taken more long = record {
  part = part ++ byte ∷ [];
  taken = Consumes-trans old mid new part (byte ∷ []) taken more;
  one = λ same. absurd cc;
  long = λ same. omega (arith, long, length-append part (byte ∷ []));
}

-- nothing was read
pub begun_none : {A T : Type 0} (limit : ℕ) (old : Option (List ℕ)) (result : Result T (RunFault A)) → result ≡ Err Write
    → IfErr result (IsBegun limit old old)
begun_none limit old (Ok value) is = tt
begun_none limit old (Err fault) is =
    let same : fault ≡ Write = cc in
    record {
      part = [];
      taken = Consumes-nil old;
      one = λ read. let both : Write ≡ Read = sym same ∙ read in absurd cc;
      long = λ large. let both : Write ≡ TooLarge = sym same ∙ large in absurd cc;
    }
