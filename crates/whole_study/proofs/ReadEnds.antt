-- How the reading of an input may end a run.
use Rattle.std.proofs.Common.{◌≡◌, ◌∙◌, ◌↔◌, sym, ap, refl, Bool, true, false, Result, Ok, Err}
use Rattle.std.specs.Prelude.{◌||◌}
use Rattle.whole_study.specs.steps.Texts.{IsReadEnd, Never}
use Rattle.whole_study.specs.declared.fault.RunFault.{RunFault}
use Rattle.whole_study.specs.declared.fault.RunFault.TheVariants.{Dump, Baseline, Names, Read, Write, TooLarge, OutOfMemory}

-- of a text, where it is too long for another reason
pub long_for : {A : Type 0} (P Q : Type 0) (fault : RunFault A) → (P → Q) → IsReadEnd Never Never P fault → IsReadEnd Never Never Q fault
long_for P Q (Dump fault) by end = absurd end
long_for P Q (Baseline fault) by end = absurd end
long_for P Q (Names refusal) by end = absurd end
long_for P Q Read by end = tt
long_for P Q Write by end = absurd end
long_for P Q TooLarge by end = by end
long_for P Q OutOfMemory by end = tt

-- ---- readers that have failed

abbrev as_ok : {F : Type 0} (T : Type 0) → T → Result T F
as_ok T x = Ok x

abbrev as_err : {F : Type 0} (T : Type 0) → F → Result T F
as_err T fault = Err fault

err_same : {F : Type 0} (T V : Type 0) (a b : F) → as_err T a ≡ as_err T b → as_err V a ≡ as_err V b
err_same T V a b e = let same : a ≡ b = cc in ap (as_err V) same

-- a call hands an error on, and its reader has failed where the other has
pub failed_by_err : {F : Type 0} (T V : Type 0) (r : Result T F) (e read : F) (a b : Bool) → r ≡ as_err T e → a ≡ b
    → (as_err V e ≡ as_err V read) ↔ (b ≡ true) → (r ≡ as_err T read) ↔ (a ≡ true)
failed_by_err T V r e read a b same ab failed =
    (λ h. ab ∙ failed.0 (err_same T V e read (sym same ∙ h)), λ h. same ∙ err_same V T e read (failed.1 (sym ab ∙ h)))

pub unfailed_by_ok : {F : Type 0} (V : Type 0) (x : V) (read : F) (b : Bool) → (as_ok V x ≡ as_err V read) ↔ (b ≡ true) → b ≡ false
unfailed_by_ok V x read true failed = absurd (ok_err (failed.1 refl))
  where
    ok_err : as_ok V x ≡ as_err V read → ⊥
    ok_err e = cc
unfailed_by_ok V x read false failed = refl

pub neither : (P : Type 0) (a : Bool) → (P → ⊥) → a ≡ false → P ↔ (a ≡ true)
neither P a not ab = (λ h. absurd (not h), λ h. absurd (false_true (sym ab ∙ h)))
  where
    false_true : false ≡ true → ⊥
    false_true e = cc

memory_other : {A : Type 0} (T : Type 0) → as_err {F = RunFault A} T OutOfMemory ≡ as_err T Read → ⊥
memory_other T e = cc

pub memory_is_no_read : {A : Type 0} (T : Type 0) (r : Result T (RunFault A)) → r ≡ as_err T OutOfMemory → r ≡ as_err T Read → ⊥
memory_is_no_read T r same h = memory_other T (sym same ∙ h)

pub large_is_no_read : {A : Type 0} (T : Type 0) → as_err {F = RunFault A} T TooLarge ≡ as_err T Read → ⊥
large_is_no_read T e = cc

pub ok_is_no_read : {A : Type 0} (T : Type 0) (x : T) → as_ok {F = RunFault A} T x ≡ as_err T Read → ⊥
ok_is_no_read T x e = cc

-- one of all readers

pub both_false : (a b : Bool) → (a || b) ≡ false → (a ≡ false) × (b ≡ false)
both_false true b e = absurd cc
both_false false b e = (refl, e)

pub or_false : (a b : Bool) → a ≡ false → b ≡ false → (a || b) ≡ false
or_false true b e f = absurd cc
or_false false b e f = f

pub or_first : (a b : Bool) → b ≡ false → (a || b) ≡ a
or_first true b e = refl
or_first false b e = e

pub or_second : (a b : Bool) → a ≡ false → (a || b) ≡ b
or_second true b e = absurd cc
or_second false b e = refl

pub only_dump : (a b c d : Bool) → (b || c) ≡ false → d ≡ false → ((a || (b || c)) || d) ≡ a
only_dump a b c d e f = or_first (a || (b || c)) d f ∙ or_first a (b || c) e

pub only_baseline : (a b c d : Bool) → a ≡ false → c ≡ false → d ≡ false → ((a || (b || c)) || d) ≡ b
only_baseline a b c d e f h = or_first (a || (b || c)) d h ∙ or_second a (b || c) e ∙ or_first b c f

pub only_names : (a b c d : Bool) → a ≡ false → b ≡ false → d ≡ false → ((a || (b || c)) || d) ≡ c
only_names a b c d e f h = or_first (a || (b || c)) d h ∙ or_second a (b || c) e ∙ or_second b c f
