-- What a list contains, and whether a text is a list.
use Rattle.std.specs.Prelude.{ℕ, Bool, not, ◌&&◌, List, None}
use Rattle.std.specs.List.{list_any}
use Rattle.findings.specs.declared.part.Part.{Part}
use Rattle.lsdb_listing.specs.declared.label.Label.TheVariants as label
use Rattle.lsdb_listing.specs.Headings.{line_kind_of}
use Rattle.lsdb_listing.specs.Labels.{begins_with}
use Rattle.lsdb_listing.specs.Lines.{Line, lines}
use Rattle.lsdb_listing.specs.ParsedLines.{is_heading, parsed_in}

-- what a text contains
abbrev pub parsed_of : {A : Type 0} → List ℕ → List (Part A)
parsed_of text = parsed_in None (lines text)

-- the heading of rows
abbrev pub is_title : Line → Bool
is_title line = is_heading (line_kind_of line)

-- the first line of an LSA that is printed whole, as by `show ip ospf database router`
abbrev pub is_detail : Line → Bool
is_detail line = begins_with label.Age line

-- one of these lines is of this kind
unfoldable pub has_line : (Line → Bool) → List Line → Bool
has_line test these = list_any test these

-- a text is a list where one of its lines is a heading, though no row may stand below it, and no LSA is printed whole
abbrev pub is_list : List ℕ → Bool
is_list text = has_line is_title (lines text) && not (has_line is_detail (lines text))
