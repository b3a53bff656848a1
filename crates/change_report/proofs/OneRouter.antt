-- What differs for one router: each name is of this router, so that its lines are those by the router's own routes.
use Rattle.std.proofs.Common.{◌≡◌, List, [], ◌∷◌, ◌++◌, map, Option, None, Some, refl, sym, ap, subst, ◌∙◌}
use Rattle.std.specs.Prelude.{All, flat_map}
use Rattle.std.proofs.lemmas.List.Concat.{flat_map-cons}
use Rattle.std.proofs.lemmas.List.Elements.{All-append, All-cons, All-filter, All-head, All-map, All-nil, All-tail}
use Rattle.lsa_codec.specs.declared.address.RouterId.{RouterId}
use Rattle.forwarding.specs.Graphs.{routers_of, routes_at}
use Rattle.forwarding.specs.Matches.{RouterValue}
use Rattle.change_lines.specs.ChangeTexts.{ChangeLineValue, ChangesValue}
use Rattle.change_lines.specs.Groups.{change_groups, in_group, is_of}
use Rattle.change_lines.specs.declared.change_name.ChangeName.{ChangeName}
use Rattle.change_lines.specs.declared.group.ChangeGroup.{ChangeGroup}
use Rattle.change_lines.specs.declared.group.ChangeGroup.TheVariants as group
use Rattle.comparison.specs.Compared.{Compared, RouterCompared}
use Rattle.comparison.specs.Named.{changes_between, changes_for, name_of, names_by, names_of, router_name}
use Rattle.change_report.specs.Lines.{change_line, lines_of_changes, route_for}
use Rattle.change_report.specs.steps.RouterLines.{router_line}

-- the name is of this router
abbrev IsAt : RouterId → ChangeName → Type 0
IsAt router name = name.router ≡ router

-- what holds of names holds of them by group
grouped : (P : ChangeName → Type 0) (names : List ChangeName) → All P names → (groups : List ChangeGroup)
    → All P (flat_map (λ group. in_group group names) groups)
grouped P names all [] = All-nil P
grouped P names all (one ∷ groups) =
    subst (λ (l : List ChangeName). All P l) (sym (flat_map-cons (λ group. in_group group names) one groups))
    (All-append P (in_group one names) (flat_map (λ group. in_group group names) groups) (All-filter (is_of one) P names all) (grouped P names all groups))

module _ (c : Compared) (router : RouterId) where
  named : (was is : Option RouterValue) → All (IsAt router) (names_by c router was is)
  named None None = All-nil (IsAt router)
  named None (Some is) = All-cons (IsAt router) (router_name group.RouterNew router) [] refl (All-nil (IsAt router))
  named (Some was) None = All-cons (IsAt router) (router_name group.RouterGone router) [] refl (All-nil (IsAt router))
  named (Some was) (Some is) = All-map (IsAt router) (name_of c router) (changes_between c was is).changes (λ k d lt. refl)

  -- all names are of the router
  all_named : All (IsAt router) (changes_for c (router ∷ [])).names
  all_named =
      grouped (IsAt router) (flat_map (names_of c) (router ∷ []))
      (subst (λ (l : List ChangeName). All (IsAt router) l) (sym (flat_map-cons (names_of c) router []))
      (All-append (IsAt router) (names_of c router) []
      (named (routes_at (routers_of c.baseline) router) (routes_at (routers_of c.present) router)) (All-nil (IsAt router))))
      change_groups

  line_is : (name : ChangeName) → name.router ≡ router → router_line (record { router = router; both = c }) name ≡ change_line c name
  line_is name at =
      ap (λ (r : RouterId). record { name = name; now = route_for c.present r name.net; was = route_for c.baseline r name.net }) (sym at)

  lines_are : (names : List ChangeName) → All (IsAt router) names
      → map (router_line (record { router = router; both = c })) names ≡ lines_of_changes c names
  lines_are [] all = refl
  lines_are (name ∷ names) all =
      ap (λ (line : ChangeLineValue). line ∷ map (router_line (record { router = router; both = c })) names)
      (line_is name (All-head (IsAt router) name names all))
      ∙ ap (λ (lines : List ChangeLineValue). change_line c name ∷ lines) (lines_are names (All-tail (IsAt router) name names all))

  -- the lines by the router's own routes are those of the changes
  own_lines_are : map (router_line (record { router = router; both = c })) (changes_for c (router ∷ [])).names
      ≡ lines_of_changes c (changes_for c (router ∷ [])).names
  own_lines_are = lines_are (changes_for c (router ∷ [])).names all_named

module _ (one : RouterCompared) (c : Compared) (router : RouterId) (same_router : one.router ≡ router) (same_both : one.both ≡ c)
    (changes : ChangesValue) (are : changes ≡ changes_for one.both (one.router ∷ [])) where
  pub changes_are : changes ≡ changes_for c (router ∷ [])
  changes_are = are ∙ ap (λ (b : Compared). changes_for b (one.router ∷ [])) same_both ∙ ap (λ (r : RouterId). changes_for c (r ∷ [])) same_router

  pub own_lines : (names : List ChangeName) (lines : List ChangeLineValue) → names ≡ changes.names → lines ≡ map (router_line one) names
      → lines ≡ lines_of_changes c changes.names
  own_lines names lines of_names of_lines =
      of_lines ∙ ap (map (router_line one)) (of_names ∙ ap (λ (v : ChangesValue). v.names) are)
      ∙ own_lines_are one.both one.router
      ∙ ap (λ (b : Compared). lines_of_changes b (changes_for one.both (one.router ∷ [])).names) same_both
      ∙ ap (λ (v : ChangesValue). lines_of_changes c v.names) (sym are)
