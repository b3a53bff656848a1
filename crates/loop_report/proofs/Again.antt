-- Prefixes that a set has already.
use Rattle.std.proofs.Common.{◌≡◌, ◌∙◌, ◌+◌, ◌<◌, ℕ, Bool, true, false, List, [], ◌∷◌, ◌++◌, append_assoc, get_or, length, refl, sym, ap, take}
use Rattle.std.specs.Prelude.{◌||◌}
use Rattle.std.specs.Cmp.Lexicographic.{pointwise}
use Rattle.std.specs.List.{flat_map, list_any}
use Rattle.std.specs.Ordering.{eq_by_cmp}
use Rattle.std.proofs.lemmas.Bool.{and_parts, false≢true}
use Rattle.std.proofs.lemmas.List.{take_more}
use Rattle.std.proofs.lemmas.List.Folds.{list_any-append}
use Rattle.lsa_codec.specs.Order.{prefix_cmp}
use Rattle.lsa_codec.specs.Prefix.{Net}
use Rattle.lsa_codec.proofs.OrderLemmas.{prefix_exact, prefix_total}
use Rattle.area_graph.specs.Rising.{rising}
use Rattle.area_routes.proofs.AddsLemmas.{flat_map_adds}
use Rattle.best_ways.proofs.RisingLemmas.{rising_same}
use Rattle.lost_routes.specs.Gathering.{Gathers}
use Rattle.lost_routes.proofs.GatheredLemmas.{gathers_same}

-- lists whose items a test finds equal, one by one, are the same
pub equal_lists : (E : Net → Net → Bool) → ((net other : Net) → E net other ≡ true → net ≡ other) → (xs ys : List Net) → pointwise E xs ys ≡ true → xs ≡ ys
equal_lists E exact [] [] h = refl
equal_lists E exact [] (y ∷ ys) h = absurd (false≢true h)
equal_lists E exact (x ∷ xs) [] h = absurd (false≢true h)
equal_lists E exact (x ∷ xs) (y ∷ ys) h =
    let parts = and_parts _ _ h in
    ap (λ (net : Net). net ∷ xs) (exact x y parts.0) ∙ ap (λ (l : List Net). y ∷ l) (equal_lists E exact xs ys parts.1)

either_twice : (a b : Bool) → (a || b) ≡ ((a || b) || b)
either_twice true b = refl
either_twice false true = refl
either_twice false false = refl

-- what was added last may be added again
rising_again : (before nets : List Net) → rising prefix_cmp (before ++ nets) ≡ rising prefix_cmp ((before ++ nets) ++ nets)
rising_again before nets =
    rising_same prefix_total prefix_exact (before ++ nets) ((before ++ nets) ++ nets) (λ q.
    list_any-append (eq_by_cmp prefix_cmp q) before nets
    ∙ either_twice (list_any (eq_by_cmp prefix_cmp q) before) (list_any (eq_by_cmp prefix_cmp q) nets)
    ∙ sym (ap (λ b. b || list_any (eq_by_cmp prefix_cmp q) nets) (list_any-append (eq_by_cmp prefix_cmp q) before nets))
    ∙ sym (list_any-append (eq_by_cmp prefix_cmp q) (before ++ nets) nets))

pub gathers_again : (more nets old new : List Net) → Gathers (more ++ nets) old new → Gathers ((more ++ nets) ++ nets) old new
gathers_again more nets old new from =
    record {
      gained = λ before is.
          from.gained before is
          ∙ ap (rising prefix_cmp) (sym (append_assoc before more nets))
          ∙ rising_again (before ++ more) nets
          ∙ ap (rising prefix_cmp) (ap (λ l. l ++ nets) (append_assoc before more nets) ∙ append_assoc before (more ++ nets) nets);
    }

-- the part of one item more
pub one_more : {X : Type 0} (f : X → List Net) (xs : List X) (i : ℕ) (x : X) → i < length xs → x ≡ get_or xs i x
    → flat_map f (take i xs) ++ f x ≡ flat_map f (take (i + 1) xs)
one_more f xs i x lt item =
    sym ((flat_map_adds f).push (take i xs) x)
    ∙ ap (λ y. flat_map f (take i xs ++ y ∷ [])) item
    ∙ sym (ap (flat_map f) (take_more xs i x lt))

-- what was added last makes up the whole, and may be added again
pub added_again : (whole more nets old new : List Net) → more ++ nets ≡ whole → Gathers (more ++ nets) old new
    → Gathers whole old new × Gathers (whole ++ nets) old new
added_again whole more nets old new is added = (
  gathers_same (more ++ nets) whole old new is added,
  gathers_same ((more ++ nets) ++ nets) (whole ++ nets) old new (ap (λ l. l ++ nets) is) (gathers_again more nets old new added),
)
