-- The live part of a database, area by area.
use Rattle.std.proofs.Common.{◌≡◌, ℕ, zero, suc, Bool, true, false, cond, [], ◌∷◌, filter, map, Option, Some, None, refl, sym, ap, ◌∙◌}
use Rattle.std.specs.List.{cons_option, find}
use Rattle.std.specs.Option.{option_and_then, option_map}
use Rattle.lsa_codec.specs.declared.address.AreaId.{AreaId}
use Rattle.lsdb.specs.declared.section.Section.{Section}
use Rattle.lsdb.specs.declared.section.Section.TheVariants.{Area}
use Rattle.lsdb.specs.Lists.{AreaHead, Lists, SectionLsas, areas_of, id_and_kind, is_section, lsas_of, lsas_or_none}
use Rattle.lsdb.specs.Slots.{IsNamed, Slots, head_or_none, item_at, lists_of}
use Rattle.area_graph.specs.Area.{is_live}
use Rattle.area_routes.specs.Attached.{id_of}
use Rattle.link_report.specs.Areas.{area_ids}
use Rattle.lsa_differences.specs.Differences.{kind_of_area, live_of}

abbrev pub live_section : SectionLsas → SectionLsas
live_section s = record { area = s.area; lsas = filter is_live s.lsas }

-- the section of a name
find_live : (p : SectionLsas → Bool) → ((s : SectionLsas) → p (live_section s) ≡ p s) → (db : Lists)
    → find p (map live_section db) ≡ option_map live_section (find p db)
find_live p same [] = refl
find_live p same (s ∷ db) =
    ap (λ b. cond b (Some (live_section s)) (find p (map live_section db))) (same s) ∙ by (p s) (find_live p same db)
  where
    by : (b : Bool) → find p (map live_section db) ≡ option_map live_section (find p db)
        → cond b (Some (live_section s)) (find p (map live_section db)) ≡ option_map live_section (cond b (Some s) (find p db))
    by true rest = refl
    by false rest = rest

named : (section : Section) (db : Lists) → find (is_section section) (live_of db) ≡ option_map live_section (find (is_section section) db)
named section db = find_live (is_section section) (λ s. refl) db

-- its LSAs
pub lsas_of-live : (section : Section) (db : Lists) → lsas_of section (live_of db) ≡ filter is_live (lsas_of section db)
lsas_of-live section db = ap lsas_or_none (named section db) ∙ by (find (is_section section) db) where
  by : (found : Option SectionLsas) → lsas_or_none (option_map live_section found) ≡ filter is_live (lsas_or_none found)
  by None = refl
  by (Some s) = refl

-- ---- its kind

-- the kind of a section that is an area
abbrev kind_in : Option SectionLsas → Option Bool
kind_in found = option_map (λ head. head.is_stub) (option_and_then (λ s. s.area) found)

kind_of-live : (area : AreaId) (db : Lists) → kind_of_area (live_of db) area ≡ kind_in (find (is_section (Area area)) db)
kind_of-live area db = ap kind_in (named (Area area) db) ∙ by (find (is_section (Area area)) db) where
  by : (found : Option SectionLsas) → kind_in (option_map live_section found) ≡ kind_in found
  by None = refl
  by (Some s) = refl

-- there is no such area
pub no_kind : (area : AreaId) (db : Lists) → find (is_section (Area area)) db ≡ None → kind_of_area (live_of db) area ≡ None
no_kind area db none = kind_of-live area db ∙ ap kind_in none

-- the head of a section by its number
head_at : (d : Slots) (i : ℕ) → option_and_then (λ (s : SectionLsas). s.area) (item_at (lists_of d) i) ≡ head_or_none (item_at d i)
head_at [] i = refl
head_at (s ∷ d) zero = refl
head_at (s ∷ d) (suc i) = head_at d i

kind_from : (head : Option AreaHead) → option_map (λ (head : AreaHead). head.is_stub) head ≡ option_map (λ (p : AreaId × Bool). p.1) (option_map id_and_kind head)
kind_from None = refl
kind_from (Some head) = refl

-- the area with this number, if it is one
pub kind_at : (d : Slots) (i : ℕ) (area : AreaId) (found : Option (AreaId × Bool)) → IsNamed d (Area area) i
    → found ≡ option_map id_and_kind (head_or_none (item_at d i))
    → option_map (λ (p : AreaId × Bool). p.1) found ≡ kind_of_area (live_of (lists_of d)) area
kind_at d i area found is at =
    ap (option_map (λ (p : AreaId × Bool). p.1)) at ∙ sym (kind_from (head_or_none (item_at d i)))
    ∙ ap (option_map (λ (head : AreaHead). head.is_stub)) (sym (head_at d i)) ∙ ap kind_in is.same ∙ sym (kind_of-live area (lists_of d))

-- the areas
areas_of-live : (db : Lists) → areas_of (live_of db) ≡ areas_of db
areas_of-live [] = refl
areas_of-live (s ∷ db) = ap (cons_option s.area) (areas_of-live db)

pub area_ids-live : (db : Lists) → area_ids (live_of db) ≡ area_ids db
area_ids-live db = ap (map id_of) (areas_of-live db)
