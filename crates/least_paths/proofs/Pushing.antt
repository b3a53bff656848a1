-- The edges of a row, added one after another.
use Rattle.std.proofs.Common.{◌≡◌, ◌∙◌, ℕ, ◌+◌, ◌<◌, ◌≤◌, List, [], ◌∷◌, ◌++◌, Option, append_assoc, get_or, length, take, sym, ap}
use Rattle.std.specs.List.{cons_option, filter_map}
use Rattle.std.proofs.lemmas.List.{append-nil, take_all, take_more}
use Rattle.std.proofs.lemmas.List.Elements.{filter_map-append}
use Rattle.area_graph.specs.declared.edge.Edge.{Edge}

-- what stands past the end of a row
abbrev pub no_edge : Edge
no_edge = record { to = 0; cost = 0; link_data = record { 0 = 0 } }

module _ {X C : Type 0} (f : X → Option C) (start : List C) (xs : List X) where
  pub none_pushed : start ≡ start ++ filter_map f (take 0 xs)
  none_pushed = sym (append-nil start)

  pub one_pushed : (i : ℕ) (spare : X) (before next : List C) → i < length xs → before ≡ start ++ filter_map f (take i xs)
      → next ≡ before ++ cons_option (f (get_or xs i spare)) [] → next ≡ start ++ filter_map f (take (i + 1) xs)
  one_pushed i spare before next lt was is =
      is
      ∙ ap (λ (l : List C). l ++ cons_option (f (get_or xs i spare)) []) was
      ∙ append_assoc start (filter_map f (take i xs)) (cons_option (f (get_or xs i spare)) [])
      ∙ ap (λ (l : List C). start ++ l) (sym (filter_map-append f (take i xs) (get_or xs i spare ∷ [])))
      ∙ ap (λ (l : List X). start ++ filter_map f l) (sym (take_more xs i spare lt))

  pub all_pushed : (i : ℕ) (now : List C) → length xs ≤ i → now ≡ start ++ filter_map f (take i xs) → now ≡ start ++ filter_map f xs
  all_pushed i now past was = was ∙ ap (λ (l : List X). start ++ filter_map f l) (take_all i xs past)
