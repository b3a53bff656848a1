-- Bytes in memory are the inputs of a run, and what a writer to memory gets is what it writes.
use Rattle.std.proofs.Common.{◌≡◌, ℕ, false, List, [], ◌++◌, Option, Some, None, Bor, refl, sym, ap, ◌∙◌}
use Rattle.std.specs.Prelude.{IfSome, is_some, option_map, unwrap_or}
use Rattle.host_io.specs.Watched.{inner_of}
use Rattle.host_io.specs.declared.watch.Watched.{Watched}
use Rattle.whole_run.specs.Streams.{contents_of}

-- a reader of bytes, where they are given, has these bytes
module _ (of : Bor (List ℕ) → Option (List ℕ)) (known : (b : Bor (List ℕ)) → of b ≡ Some b.now) where
  pub same_bytes : (reader : Option (Watched (Bor (List ℕ)))) (bytes : Option (Bor (List ℕ))) → is_some reader ≡ is_some bytes
      → IfSome reader (λ r. bytes ≡ Some (inner_of r)) → contents_of of reader ≡ option_map (λ b. b.now) bytes
  same_bytes None None given is = refl
  same_bytes None (Some b) given is = absurd cc
  same_bytes (Some r) bytes given is = known (inner_of r) ∙ ap (option_map (λ (b : Bor (List ℕ)). b.now)) (sym is)

pub still_given : {X Y : Type 0} (f : X → Y) (o : Option X) → is_some o ≡ is_some (option_map f o)
still_given f None = refl
still_given f (Some x) = refl

-- a text, or none as an empty one
pub text_given : {V : Type 0} (text : Option V) (items : V → List ℕ) (out : List ℕ) → IfSome text (λ v. out ≡ items v)
    → (is_some text ≡ false → out ≡ []) → out ≡ unwrap_or (option_map items text) []
text_given None items out given none = none refl
text_given (Some v) items out given none = given

-- a writer that began without a byte has what was written
pub written : {V : Type 0} (out got fresh empty : V) (items : V → List ℕ) (text : List ℕ) → out ≡ got → fresh ≡ empty → items empty ≡ []
    → items got ≡ items fresh ++ text → items out ≡ text
written out got fresh empty items text is same none grows = ap items is ∙ grows ∙ ap (λ xs. xs ++ text) (ap items same ∙ none)
