-- What a list shows, in words: a line for each finding in it, and for each difference.
use Rattle.std.specs.Prelude.{◌≡◌, ℕ, List, ◌++◌, codes, flat_map}
use Rattle.findings.specs.declared.finding.Finding.{Finding}
use Rattle.findings.specs.Lines.{finding_lines}
use Rattle.lsa_instances.specs.declared.header.Header.{Header}
use Rattle.lsa_instances.specs.Texts.{place_text}
use Rattle.lsdb.specs.Lists.{Lists}
use Rattle.lsdb_listing.specs.declared.difference.Change.{Change}
use Rattle.lsdb_listing.specs.declared.difference.Change.TheVariants as changes
use Rattle.lsdb_listing.specs.declared.difference.Difference.{Difference}
use Rattle.lsdb_listing.specs.Comparing.{differences}
use Rattle.lsdb_listing.specs.Once.{AreOnce}

-- ---- words

abbrev pub change_text : Change → List ℕ
change_text changes.Missing = codes "Missing"
change_text changes.Newer = codes "Newer"
change_text changes.Older = codes "Older"

-- as `Missing area 0.0.0.1 type 1 id 4.4.4.4 adv 4.4.4.4`
abbrev pub difference_text : Difference → List ℕ
difference_text one = change_text one.change ++ codes " " ++ place_text one.place

-- ---- lines, each with its end, after the name of the list

abbrev pub difference_line : List ℕ → Difference → List ℕ
difference_line name one = name ++ codes ": " ++ difference_text one ++ codes "\n"

-- the findings in the list, and then how the database differs from its headers, each difference once
pub record AreLines (name : List ℕ) (db : Lists) (headers : List Header) (these : List Finding) (lines : List ℕ) : Type 0 where
  pub found : List Difference
  pub once : AreOnce (differences db headers) found
  pub spelled : lines ≡ finding_lines name these ++ flat_map (difference_line name) found
