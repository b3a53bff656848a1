-- The findings about LSAs that headers name.
use Rattle.std.specs.Prelude.{◌≡◌, List, ◌++◌, map}
use Rattle.findings.specs.declared.finding.Finding.{Finding}
use Rattle.findings.specs.declared.finding.Finding.TheVariants.{Newer, Unseen}
use Rattle.lsa_instances.specs.declared.place.Place.{Place}
use Rattle.lsa_instances.specs.Order.{place_cmp}
use Rattle.network_files.specs.declared.parsed_file.ParsedFile.{ParsedFile}
use Rattle.capture_report.specs.Newer.{AreNewer, headers_of, shown_of}
use Rattle.capture_report.specs.Sets.{AreMissing}
use Rattle.capture_report.specs.Unseen.{all_named, all_shown}

-- each LSA that no file has, and after these each of which a newer instance is named
pub record AreHeaderFindings {A : Type 0} (files : List (ParsedFile A)) (findings : List Finding) : Type 0 where
  pub unseen : List Place
  pub newer : List Place
  pub are_unseen : AreMissing place_cmp (all_named files) (all_shown files) unseen
  pub are_newer : AreNewer (headers_of files) (shown_of files) newer
  pub reported : findings ≡ map Unseen unseen ++ map Newer newer
