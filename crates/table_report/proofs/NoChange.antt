-- A routing table differs from itself at no prefix.
use Rattle.std.proofs.Common.{◌≡◌, codes, Bool, List, [], ◌∷◌, Option, Some, None, refl, ap, ◌∙◌, cond}
use Rattle.std.specs.Prelude.{◌++◌}
use Rattle.std.specs.List.{cons_option, filter_map}
use Rattle.std.proofs.lemmas.Slice.Eq.{bytes_eq-Decides}
use Rattle.lsa_codec.specs.Prefix.{Net}
use Rattle.lsa_codec.specs.Order.{prefix_cmp}
use Rattle.area_graph.specs.Rising.{rising}
use Rattle.best_ways.specs.Routes.{nets, route_to}
use Rattle.best_ways.specs.Values.{RouteValue}
use Rattle.table_report.specs.Comparing.{change, change_at, changes}
use Rattle.table_report.specs.Texts.{line_of, rest_of}

no_change : (o : Option RouteValue) → change o o ≡ None
no_change None = refl
no_change (Some r) =
    ap (λ (b : Bool). cond b None (Some (codes "~ " ++ line_of r ++ codes " was " ++ rest_of r)))
    ((bytes_eq-Decides (line_of r) (line_of r)).1 refl)

none_changed : (rs : List RouteValue) (ns : List Net) → filter_map (change_at rs rs) ns ≡ []
none_changed rs [] = refl
none_changed rs (n ∷ ns) = ap (λ o. cons_option o (filter_map (change_at rs rs) ns)) (no_change (route_to rs n)) ∙ none_changed rs ns

pub no_changes : (rs : List RouteValue) → changes rs rs ≡ []
no_changes rs = none_changed rs (rising prefix_cmp (nets (rs ++ rs)))
