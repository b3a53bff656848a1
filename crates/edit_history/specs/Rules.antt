-- A rule decides for each LSA of a database whether it stays, is removed, or is rewritten, and how, and
-- which LSA is added. The database after it and the list of its changes follow from it.
use Rattle.std.specs.Prelude.{ℕ, List, [], ◌∷◌, ◌++◌, map, Option, Some, None, if◌then◌else◌}
use Rattle.std.specs.List.{filter_map, flat_map}
use Rattle.lsa_codec.specs.declared.key.Key.{Key}
use Rattle.lsa_codec.specs.Fields.{kind_of}
use Rattle.lsdb.specs.declared.section.Section.{Section}
use Rattle.lsdb.specs.declared.section.Section.TheVariants.{Area, AsWide}
use Rattle.lsdb.specs.Lists.{AreaHead, SectionLsas, Lists, is_head_of, has_key}

-- the fate of an LSA
pub data Fate : Type 0 where
  stays : Fate
  removed : Fate
  rewritten : List ℕ → Fate

-- the fate of each LSA, by its area and its bytes
abbrev pub Fates : Type 0
Fates = Option AreaHead → List ℕ → Fate

-- a new LSA, and the section that gets it
pub record NewLsa : Type 0 where
  pub section : Section
  pub lsa : List ℕ

-- the fates of the LSAs that are there, and the new LSA, if there is one
pub record Rule : Type 0 where
  pub fates : Fates
  pub added : Option NewLsa

-- ---- rules

-- no LSA is added
abbrev pub by_fates : Fates → Rule
by_fates fates = record { fates = fates; added = None }

-- the LSAs of one section have these fates; all others stay
abbrev pub within : Section → (List ℕ → Fate) → Rule
within section fate = by_fates (λ head lsa. if is_head_of section head then fate lsa else stays)

-- one LSA has this fate; all others stay
abbrev pub one_lsa : Section → Key → Fate → Rule
one_lsa section key fate = within section (λ lsa. if has_key key lsa then fate else stays)

-- all LSAs stay, and a new one is added at the end of a section
abbrev pub adding : Section → List ℕ → Rule
adding name new = record { fates = λ head lsa. stays; added = Some (record { section = name; lsa = new }) }

-- ---- the database that a rule leaves: each list in its order

-- a list with one more item for the new LSA, where this section gets it
abbrev pub with_added : {X : Type 0} → (List ℕ → X) → Option NewLsa → Option AreaHead → List X → List X
with_added item None head xs = xs
with_added item (Some new) head xs = if is_head_of new.section head then xs ++ item new.lsa ∷ [] else xs

abbrev pub outcome : Fate → List ℕ → Option (List ℕ)
outcome stays lsa = Some lsa
outcome removed lsa = None
outcome (rewritten new) lsa = Some new

abbrev pub kept_lsas : Fates → SectionLsas → List (List ℕ)
kept_lsas fates s = filter_map (λ lsa. outcome (fates s.area lsa) lsa) s.lsas

abbrev pub section_after : Rule → SectionLsas → SectionLsas
section_after rule s = record { area = s.area; lsas = with_added (λ lsa. lsa) rule.added s.area (kept_lsas rule.fates s) }

abbrev pub lists_after : Rule → Lists → Lists
lists_after rule db = map (section_after rule) db

-- ---- what a rule changes, by section and position

-- an LSA that was rewritten, removed or added: its section, its LS type, and its bytes before and after
pub record Change : Type 0 where
  pub section : Section
  pub kind : ℕ
  pub old : Option (List ℕ)
  pub new : Option (List ℕ)

-- the section of an area, or the one of AS scope
abbrev pub section_name : Option AreaHead → Section
section_name None = AsWide
section_name (Some area) = Area (record { 0 = area.id })

-- a rewritten LSA counts as changed, even where its bytes are equal
abbrev pub change_of : Section → List ℕ → Fate → Option Change
change_of section lsa stays = None
change_of section lsa removed = Some (record { section = section; kind = kind_of lsa; old = Some lsa; new = None })
change_of section lsa (rewritten new) = Some (record { section = section; kind = kind_of lsa; old = Some lsa; new = Some new })

abbrev pub addition : Section → List ℕ → Change
addition section lsa = record { section = section; kind = kind_of lsa; old = None; new = Some lsa }

abbrev pub fated_changes : Fates → SectionLsas → List Change
fated_changes fates s = filter_map (λ lsa. change_of (section_name s.area) lsa (fates s.area lsa)) s.lsas

abbrev pub section_changes : Rule → SectionLsas → List Change
section_changes rule s = with_added (addition (section_name s.area)) rule.added s.area (fated_changes rule.fates s)

abbrev pub changes_by : Rule → Lists → List Change
changes_by rule db = flat_map (section_changes rule) db
