-- What is taken of numbered items, of those that give something.
use Rattle.std.proofs.Common.{◌≡◌, ℕ, List, [], ◌++◌, Option, None, Some, refl}
use Rattle.std.specs.List.{cons_option, filter_map}
use Rattle.link_report.proofs.NumberedLemmas.{Takes}

pub takes_given : {X C : Type 0} (f : ℕ × X → Option C) → Takes (filter_map f) (λ one. cons_option (f one) [])
takes_given {X} {C} f = record { none = refl; front = λ one rest. by (f one) (filter_map f rest) }
  where
    by : (o : Option C) (cs : List C) → cons_option o cs ≡ cons_option o [] ++ cs
    by None cs = refl
    by (Some c) cs = refl
