-- What a file contains, as a line.
use Rattle.std.specs.Prelude.{◌≡◌, ℕ, List, ◌++◌, codes, decimal, length}
use Rattle.lsa_codec.specs.declared.address.AreaId.{AreaId}
use Rattle.lsa_codec.specs.Order.{area_cmp}
use Rattle.network_files.specs.declared.kind.FileKind.{FileKind}
use Rattle.network_files.specs.declared.kind.FileKind.TheVariants.{Capture, Json, Printed, Walk}
use Rattle.network_files.specs.declared.parsed_file.ParsedFile.{ParsedFile}
use Rattle.capture_report.specs.Areas.{reported_areas}
use Rattle.capture_report.specs.Sets.{AreOnce}

-- the words for the kind of a file
abbrev pub kind_name : FileKind → List ℕ
kind_name Capture = codes "capture"
kind_name Json = codes "printed in JSON"
kind_name Printed = codes "printed"
kind_name Walk = codes "walk"

-- as `r4-r5.pcap: capture, 180 LSAs, 1 areas`, its end included
abbrev pub line_words : List ℕ → List ℕ → ℕ → ℕ → List ℕ
line_words name kind lsas areas =
    name ++ codes ": " ++ kind ++ codes ", " ++ decimal lsas ++ codes " LSAs, " ++ decimal areas ++ codes " areas\n"

abbrev pub line_text : {A : Type 0} → List ℕ → ParsedFile A → ℕ → List ℕ
line_text name file areas = line_words name (kind_name file.kind) (length file.observations.items) areas

-- the line of a file, with the number of its areas, each counted once
pub record IsLine {A : Type 0} (name : List ℕ) (file : ParsedFile A) (line : List ℕ) : Type 0 where
  pub areas : List AreaId
  pub once : AreOnce area_cmp (reported_areas file) areas
  pub spelled : line ≡ line_text name file (length areas)
