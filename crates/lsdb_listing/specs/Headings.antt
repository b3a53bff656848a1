-- Lines that say where the rows below them belong.
use Rattle.std.specs.Prelude.{ℕ, Bool, true, false, ◌||◌, List, [], ◌∷◌, Option, Some, None, option_map, if◌then◌else◌}
use Rattle.lsa_codec.specs.LsTypes.{router_lsa, network_lsa, summary_lsa, asbr_summary_lsa, external_lsa, as_opaque_lsa}
use Rattle.lsa_codec.specs.declared.address.AreaId.{AreaId}
use Rattle.frr_text.specs.Headings.{area_of}
use Rattle.frr_text.specs.Labels.{first_word}
use Rattle.text_words.specs.Addresses.{address_of}
use Rattle.frr_text.specs.Rules.{◌>>=◌, or_else}
use Rattle.lsdb_listing.specs.declared.heading.Heading.{Heading}
use Rattle.lsdb_listing.specs.declared.heading.Heading.TheVariants as headings
use Rattle.lsdb_listing.specs.declared.label.Label.{Label}
use Rattle.lsdb_listing.specs.declared.label.Label.TheVariants as label
use Rattle.lsdb_listing.specs.declared.line_kind.LineKind.{LineKind}
use Rattle.lsdb_listing.specs.declared.line_kind.LineKind.TheVariants as kinds
use Rattle.lsdb_listing.specs.declared.title.Title.{Title}
use Rattle.lsdb_listing.specs.Labels.{after_label, begins_with}
use Rattle.lsdb_listing.specs.Lines.{Line}
use Rattle.lsa_instances.specs.LsTypes.{nssa_lsa, link_opaque_lsa, area_opaque_lsa}

-- ---- FRR: a table for each LS type (RFC 2328, 12.1.3; RFC 3101 for type 7; RFC 5250 for the types 9 to 11)

abbrev pub title : ℕ → Label → Title
title kind label = record { kind = kind; label = label }

abbrev pub titles : List Title
titles =
    title router_lsa label.Router ∷ title network_lsa label.Network ∷ title summary_lsa label.Summary
    ∷ title asbr_summary_lsa label.AsbrSummary ∷ title external_lsa label.External ∷ title nssa_lsa label.Nssa
    ∷ title link_opaque_lsa label.LinkOpaque ∷ title area_opaque_lsa label.AreaOpaque ∷ title as_opaque_lsa label.AsOpaque
    ∷ []

-- the area that is named after a title, if one is: none where nothing stands there
abbrev pub area_after : Line → Option (Option AreaId)
area_after [] = Some None
area_after (word ∷ line) = do
  after ← after_label label.InArea (word ∷ line)
  found ← first_word after
  option_map Some (area_of found.0)

unfoldable pub table_as : Title → Line → Option Heading
table_as title line = do
  after ← after_label title.label line
  option_map (headings.Table title.kind) (area_after after)

-- the table of the first of these titles that stands here
unfoldable pub table_among : List Title → Line → Option Heading
table_among [] line = None
table_among (title ∷ others) line = or_else (table_as title line) (table_among others line)

-- ---- BIRD: a section for each area, for the whole AS, and for each link

unfoldable pub area_section : Line → Option Heading
area_section line = do
  after ← after_label label.Area line
  found ← first_word after
  option_map (λ address. headings.Section (Some (record { 0 = address }))) (address_of found.0)

abbrev pub is_bare : Line → Bool
is_bare [] = true
is_bare (word ∷ line) = false

abbrev pub is_one_word : Line → Bool
is_one_word [] = false
is_one_word (word ∷ line) = is_bare line

-- a line begins with a label, and what follows it is of this kind
abbrev pub is_followed : (Line → Bool) → Option Line → Bool
is_followed test None = false
is_followed test (Some after) = test after

-- nothing follows `Global`, and only the name of an interface follows `Link`
abbrev pub is_global : Line → Bool
is_global line = is_followed is_bare (after_label label.Global line)

abbrev pub is_link : Line → Bool
is_link line = is_followed is_one_word (after_label label.Link line)

abbrev pub bare_section : Line → Option Heading
bare_section line = if is_global line || is_link line then Some (headings.Section None) else None

unfoldable pub section_in : Line → Option Heading
section_in line = or_else (area_section line) (bare_section line)

-- ---- what a line means for those below it

abbrev pub is_columns : Line → Bool
is_columns line = begins_with label.IdColumns line || begins_with label.OpaqueColumns line || begins_with label.TypeColumns line

-- nothing, or the names of columns
abbrev pub is_idle : Line → Bool
is_idle [] = true
is_idle (word ∷ line) = is_columns (word ∷ line)

-- a router or a program names itself
abbrev pub is_start : Line → Bool
is_start line = begins_with label.Printer line || begins_with label.Bird line

abbrev pub is_heading_word : Line → Bool
is_heading_word line = begins_with label.InArea line || begins_with label.States line

-- a word of a heading stands somewhere
unfoldable pub has_heading_word : Line → Bool
has_heading_word [] = false
has_heading_word (word ∷ line) = is_heading_word (word ∷ line) || has_heading_word line

abbrev pub no_heading : Line → LineKind
no_heading line = if is_start line then kinds.Start else if has_heading_word line then kinds.Foreign else kinds.Row

abbrev pub by_heading : Line → Option Heading → LineKind
by_heading line (Some heading) = kinds.Heading heading
by_heading line None = no_heading line

unfoldable pub line_kind_of : Line → LineKind
line_kind_of line = if is_idle line then kinds.Idle else by_heading line (or_else (table_among titles line) (section_in line))

-- the heading that the next line stands under
abbrev pub heading_after : Option Heading → LineKind → Option Heading
heading_after heading (kinds.Heading next) = Some next
heading_after heading kinds.Start = None
heading_after heading kinds.Foreign = None
heading_after heading kinds.Idle = heading
heading_after heading kinds.Row = heading
