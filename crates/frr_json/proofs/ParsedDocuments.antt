-- The LSAs of areas, one after another.
use Rattle.std.proofs.Common.{◌≡◌, ℕ, ◌+◌, ◌<◌, ◌≤◌, List, [], ◌∷◌, ◌++◌, length, get_or, drop, append_assoc, Option, Bor, refl, sym, ap, ◌∙◌}
use Rattle.std.proofs.lemmas.List.{append-nil, drop_all}
use Rattle.json.specs.Json.{Json, Items, no_items, item, Members, no_members, member}
use Rattle.json.specs.Value.{value_view, items_view, members_view}
use Rattle.json.specs.declared.value.Value.{Value}
use Rattle.lsa_codec.specs.declared.address.AreaId.{AreaId}
use Rattle.frr_text.specs.declared.ls_type.LsType.TheVariants as types
use Rattle.findings.specs.declared.part.Part.{Part}
use Rattle.frr_json.proofs.Joined.{cut}
use Rattle.frr_json.specs.declared.table.Table.{Table}
use Rattle.frr_json.specs.declared.table.Table.TheVariants as tables
use Rattle.frr_json.specs.ParsedDocuments.{area_named, parsed_item, lsas_in, parsed_array, areas_in, parsed_of, tables_in}

module _ {A : Type 0} where
  lsas_step : (table : Table) (area : Option AreaId) (json : Json) (items : Items)
      → lsas_in {A = A} table area (item json items) ≡ parsed_item table area json ∷ lsas_in table area items
  unfolding lsas_in
  lsas_step table area json items = refl

  lsas_nil : (table : Table) (area : Option AreaId) → lsas_in {A = A} table area no_items ≡ []
  unfolding lsas_in
  lsas_nil table area = refl

  pub lsas_next : (before after all : List (Part A)) (table : Table) (area : Option AreaId) (xs : List (Value A)) (i : ℕ) (x : Value A)
      (parsed : Part A)
      → i < length xs → x ≡ get_or xs i x → parsed ≡ parsed_item table area (value_view x) → after ≡ before ++ parsed ∷ []
      → before ++ lsas_in table area (items_view (drop i xs)) ≡ all → after ++ lsas_in table area (items_view (drop (i + 1) xs)) ≡ all
  lsas_next before after all table area xs i x parsed lt at same added h =
      let beyond : List (Value A) = drop (i + 1) xs in
      ap (λ (y : List (Part A)). y ++ lsas_in table area (items_view beyond)) added
      ∙ append_assoc before (parsed ∷ []) (lsas_in table area (items_view beyond))
      ∙ ap (λ (y : Part A). before ++ y ∷ lsas_in table area (items_view beyond)) same
      ∙ ap (λ (y : List (Part A)). before ++ y) (sym (lsas_step table area (value_view x) (items_view beyond)))
      ∙ ap (λ (vs : List (Value A)). before ++ lsas_in table area (items_view vs))
      (ap (λ (y : Value A). y ∷ beyond) at ∙ sym (cut xs i x lt))
      ∙ h

  pub lsas_end : (before all : List (Part A)) (table : Table) (area : Option AreaId) (xs : List (Value A)) (i : ℕ) → length xs ≤ i
      → before ++ lsas_in table area (items_view (drop i xs)) ≡ all → before ≡ all
  lsas_end before all table area xs i le h =
      sym (append-nil before) ∙ ap (λ (y : List (Part A)). before ++ y) (sym (lsas_nil table area))
      ∙ ap (λ (vs : List (Value A)). before ++ lsas_in table area (items_view vs)) (sym (drop_all i xs le)) ∙ h

  areas_step : (table : Table) (name : List ℕ) (json : Json) (rest : Members)
      → areas_in {A = A} table (member name json rest) ≡ parsed_array table (area_named name) json ++ areas_in table rest
  unfolding areas_in
  areas_step table name json rest = refl

  areas_nil : (table : Table) → areas_in {A = A} table no_members ≡ []
  unfolding areas_in
  areas_nil table = refl

  pub areas_next : (before after all : List (Part A)) (table : Table) (xs : List (Bor (List ℕ) × Value A)) (i : ℕ)
      (x : Bor (List ℕ) × Value A)
      → i < length xs → x ≡ get_or xs i x → after ≡ before ++ parsed_array table (area_named x.0.now) (value_view x.1)
      → before ++ areas_in table (members_view (drop i xs)) ≡ all → after ++ areas_in table (members_view (drop (i + 1) xs)) ≡ all
  areas_next before after all table xs i x lt at added h =
      let beyond : List (Bor (List ℕ) × Value A) = drop (i + 1) xs in
      ap (λ (y : List (Part A)). y ++ areas_in table (members_view beyond)) added
      ∙ append_assoc before (parsed_array table (area_named x.0.now) (value_view x.1)) (areas_in table (members_view beyond))
      ∙ ap (λ (y : List (Part A)). before ++ y) (sym (areas_step table x.0.now (value_view x.1) (members_view beyond)))
      ∙ ap (λ (ms : List (Bor (List ℕ) × Value A)). before ++ areas_in table (members_view ms))
      (ap (λ (y : Bor (List ℕ) × Value A). y ∷ beyond) at ∙ sym (cut xs i x lt))
      ∙ h

  pub areas_end : (before all : List (Part A)) (table : Table) (xs : List (Bor (List ℕ) × Value A)) (i : ℕ) → length xs ≤ i
      → before ++ areas_in table (members_view (drop i xs)) ≡ all → before ≡ all
  areas_end before all table xs i le h =
      sym (append-nil before) ∙ ap (λ (y : List (Part A)). before ++ y) (sym (areas_nil table))
      ∙ ap (λ (ms : List (Bor (List ℕ) × Value A)). before ++ areas_in table (members_view ms)) (sym (drop_all i xs le)) ∙ h

  pub types_joined : (json : Json) (first second third fourth fifth sixth seventh eighth ninth : List (Part A))
      → first ≡ parsed_of (tables.Read types.Router) json → second ≡ first ++ parsed_of (tables.Read types.Network) json
      → third ≡ second ++ parsed_of (tables.Read types.Summary) json → fourth ≡ third ++ parsed_of (tables.Read types.AsbrSummary) json
      → fifth ≡ fourth ++ parsed_of (tables.Read types.External) json → sixth ≡ fifth ++ parsed_of tables.Nssa json
      → seventh ≡ sixth ++ parsed_of tables.LinkOpaque json → eighth ≡ seventh ++ parsed_of tables.AreaOpaque json
      → ninth ≡ eighth ++ parsed_of tables.AsOpaque json → ninth ≡ tables_in json
  unfolding tables_in
  types_joined json first second third fourth fifth sixth seventh eighth ninth one two three four five six seven eight nine =
      nine
      ∙ ap (λ (x : List (Part A)). x ++ parsed_of tables.AsOpaque json)
      (eight ∙ ap (λ (x : List (Part A)). x ++ parsed_of tables.AreaOpaque json)
      (seven ∙ ap (λ (x : List (Part A)). x ++ parsed_of tables.LinkOpaque json)
      (six ∙ ap (λ (x : List (Part A)). x ++ parsed_of tables.Nssa json)
      (five ∙ ap (λ (x : List (Part A)). x ++ parsed_of (tables.Read types.External) json)
      (four ∙ ap (λ (x : List (Part A)). x ++ parsed_of (tables.Read types.AsbrSummary) json)
      (three ∙ ap (λ (x : List (Part A)). x ++ parsed_of (tables.Read types.Summary) json)
      (two ∙ ap (λ (x : List (Part A)). x ++ parsed_of (tables.Read types.Network) json) one)))))))
