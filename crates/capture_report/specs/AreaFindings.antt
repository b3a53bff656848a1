-- The findings about the kinds of areas.
use Rattle.std.specs.Prelude.{◌≡◌, List, ◌++◌, map}
use Rattle.findings.specs.declared.finding.Finding.{Finding}
use Rattle.findings.specs.declared.finding.Finding.TheVariants.{BothKinds, NoKind}
use Rattle.lsa_codec.specs.declared.address.AreaId.{AreaId}
use Rattle.lsdb.specs.Lists.{Lists}
use Rattle.network_files.specs.Dumps.{areas_of}
use Rattle.network_files.specs.declared.parsed_file.ParsedFile.{ParsedFile}
use Rattle.capture_report.specs.Contradictions.{AreContradictions}
use Rattle.capture_report.specs.NoKind.{areas_in, without_kind}

-- the areas of which the files report two kinds, and after these the areas of the database of which they report none
pub record AreAreaFindings {A : Type 0} (db : Lists) (files : List (ParsedFile A)) (findings : List Finding) : Type 0 where
  pub both : List AreaId
  pub contradictory : AreContradictions (areas_of files) both
  pub reported : findings ≡ map BothKinds both ++ map NoKind (without_kind (areas_of files) (areas_in db))
