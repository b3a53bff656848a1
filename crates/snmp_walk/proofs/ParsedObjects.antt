-- What the rest of a walk contains.
use Rattle.std.proofs.Common.{◌≡◌, ℕ, ◌+◌, ◌<◌, ◌≤◌, true, false, cond, eqb, List, [], ◌∷◌}
use Rattle.std.proofs.Common.{◌++◌, length, get_or, drop, Option, Some, None, refl, sym, ap, ◌∙◌, add-one, append_assoc}
use Rattle.std.specs.Prelude.{map}
use Rattle.std.specs.List.{cons_option}
use Rattle.std.proofs.Math.Seq.{drop-cons}
use Rattle.std.proofs.lemmas.List.{drop_all, append-nil}
use Rattle.snmp_walk.specs.declared.parsed_object.ParsedObject.{ParsedObject}
use Rattle.snmp_walk.specs.Objects.{Object, object_at, later_objects}
use Rattle.snmp_walk.specs.ParsedObjects.{parsed_by, parsed_in}
use Rattle.snmp_walk.specs.steps.ParsedLines.{parsed_option, parsed_at, parsed_after}

-- what the later objects contain
unfoldable pub parsed_later : {A : Type 0} → List ℕ → List (ParsedObject A)
parsed_later text = map parsed_by (later_objects text)

with_object : {A : Type 0} (object : Option Object) (others : List Object) → parsed_option {A = A} object ++ map parsed_by others ≡ map parsed_by (cons_option object others)
with_object None others = refl
with_object (Some object) others = refl

pub parsed_first : {A : Type 0} (text : List ℕ) → parsed_at {A = A} text ++ parsed_later text ≡ parsed_in text
unfolding parsed_at parsed_in parsed_later
parsed_first text = with_object (object_at text) (later_objects text)

step : {A : Type 0} (byte : ℕ) (text : List ℕ) → parsed_after {A = A} (byte ∷ text) ++ parsed_later text ≡ parsed_later (byte ∷ text)
unfolding parsed_after parsed_at parsed_later later_objects
step {A} byte text =
    elim (eqb byte 10) as (λ b. cond b (parsed_option {A = A} (object_at text)) [] ++ map parsed_by (later_objects text)
    ≡ map parsed_by (cond b (cons_option (object_at text) (later_objects text)) (later_objects text))) [
      | true ↦ with_object (object_at text) (later_objects text)
      | false ↦ refl
    ]

pub parsed_next : {A : Type 0} (parsed : List (ParsedObject A)) (text all : List ℕ) (i : ℕ) → i < length text
    → parsed ++ parsed_later (drop i text) ≡ parsed_in all → (parsed ++ parsed_after (drop i text)) ++ parsed_later (drop (i + 1) text) ≡ parsed_in all
parsed_next {A} parsed text all i lt e =
    let cut : drop i text ≡ get_or text i 0 ∷ drop (i + 1) text = rw (add-one, drop-cons text i 0) refl in
    append_assoc parsed (parsed_after (drop i text)) (parsed_later (drop (i + 1) text))
    ∙ ap (λ t. parsed ++ (parsed_after t ++ parsed_later (drop (i + 1) text))) cut
    ∙ ap (λ t. parsed ++ t) (step (get_or text i 0) (drop (i + 1) text))
    ∙ ap (λ t. parsed ++ parsed_later t) (sym cut) ∙ e

later_nil : {A : Type 0} → parsed_later {A = A} [] ≡ []
unfolding parsed_later later_objects
later_nil = refl

pub parsed_all : {A : Type 0} (parsed : List (ParsedObject A)) (text all : List ℕ) (i : ℕ) → length text ≤ i
    → parsed ++ parsed_later (drop i text) ≡ parsed_in all → parsed ≡ parsed_in all
parsed_all parsed text all i le e =
    sym (append-nil parsed) ∙ ap (λ t. parsed ++ t) (sym later_nil) ∙ ap (λ t. parsed ++ parsed_later t) (sym (drop_all i text le)) ∙ e
