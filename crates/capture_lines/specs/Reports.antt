-- What a run writes of its files and of the database that they make.
use Rattle.std.specs.Prelude.{◌≡◌, ℕ, Bool, true, false, List, ◌++◌, codes}
use Rattle.std.specs.List.{AllZip, filter_map, flat_map}
use Rattle.capture_report.specs.AreaFindings.{AreAreaFindings}
use Rattle.capture_report.specs.DatabaseFindings.{AreDatabaseFindings}
use Rattle.capture_report.specs.FileFindings.{AreFileFindings}
use Rattle.capture_report.specs.FileLines.{IsLine}
use Rattle.capture_report.specs.HeaderFindings.{AreHeaderFindings}
use Rattle.findings.specs.declared.finding.Finding.{Finding}
use Rattle.findings.specs.Lines.{finding_lines}
use Rattle.findings.specs.Notices.{chosen}
use Rattle.lsdb.specs.Lists.{Lists}
use Rattle.lsdb_listing.specs.Texts.{AreLines}
use Rattle.lsdb_listing.specs.declared.list.PrintedList.{PrintedList}
use Rattle.network_files.specs.declared.parsed_file.ParsedFile.{ParsedFile}
use Rattle.profile_findings.specs.Summaries.{summary_findings}

-- the lines of the notices among findings in what has this name, or those of the warnings
abbrev pub lines_of : Bool → List ℕ → List Finding → List ℕ
lines_of notices name findings = finding_lines name (filter_map (chosen notices) findings)

-- ---- each file

-- what is written of a file: its line, and the lines of the notices and of the warnings in it
pub record FileTexts : Type 0 where
  pub line : List ℕ
  pub notices : List ℕ
  pub warnings : List ℕ

-- this is written of a file of this name
pub record AreFileTexts {A : Type 0} (file : List ℕ × ParsedFile A) (texts : FileTexts) : Type 0 where
  pub findings : List Finding
  pub found : AreFileFindings file.1 findings
  pub line_is : IsLine file.0 file.1 texts.line
  pub notices_are : texts.notices ≡ lines_of true file.0 findings
  pub warnings_are : texts.warnings ≡ lines_of false file.0 findings

-- a file of this name adds its texts to those of files before it
pub record AddsFile {A : Type 0} (name : List ℕ) (file : ParsedFile A)
    (lines new_lines notices new_notices warnings new_warnings : List ℕ) : Type 0 where
  pub texts : FileTexts
  pub are_texts : AreFileTexts (name, file) texts
  pub lines_are : new_lines ≡ lines ++ texts.line
  pub notices_are : new_notices ≡ notices ++ texts.notices
  pub warnings_are : new_warnings ≡ warnings ++ texts.warnings

-- this is written of files, each with its name, in their order
pub record HaveFileTexts {A : Type 0} (files : List (List ℕ × ParsedFile A)) (lines notices warnings : List ℕ) : Type 0 where
  pub texts : List FileTexts
  pub each : AllZip AreFileTexts files texts
  pub lines_are : lines ≡ flat_map (λ file. file.line) texts
  pub notices_are : notices ≡ flat_map (λ file. file.notices) texts
  pub warnings_are : warnings ≡ flat_map (λ file. file.warnings) texts

-- ---- all files together

-- the findings about the kinds of areas, about LSAs that headers name, about what the database lacks, and about metrics that
-- are out of the planner's profile
pub record AreNetworkFindings {A : Type 0} (files : List (ParsedFile A)) (db : Lists) (findings : List Finding) : Type 0 where
  pub areas : List Finding
  pub headers : List Finding
  pub lacking : List Finding
  pub about_areas : AreAreaFindings db files areas
  pub about_headers : AreHeaderFindings files headers
  pub about_database : AreDatabaseFindings db lacking
  pub whole : findings ≡ ((areas ++ headers) ++ lacking) ++ summary_findings db

-- ---- lists

abbrev pub AreListTexts : {A : Type 0} → Lists → List ℕ × PrintedList A → List ℕ → Type 0
AreListTexts db list lines = AreLines list.0 db list.1.headers.items list.1.findings.items lines

-- this is written of a database beside lists, each with its name, in their order
pub record HaveListTexts {A : Type 0} (db : Lists) (lists : List (List ℕ × PrintedList A)) (lines : List ℕ) : Type 0 where
  pub texts : List (List ℕ)
  pub each : AllZip (AreListTexts db) lists texts
  pub lines_are : lines ≡ flat_map (λ text. text) texts

-- ---- a run

-- a run whose files contain this, and make this database, writes of them: a line for each file; the notices in each file and
-- in all of them together; and the warnings likewise, and after these those beside the lists
pub record AreReported {A : Type 0} (parsed : List (ParsedFile A)) (db : Lists) (files : List (List ℕ × ParsedFile A))
    (lists : List (List ℕ × PrintedList A)) (lines notices warnings : List ℕ) : Type 0 where
  pub file_notices : List ℕ
  pub file_warnings : List ℕ
  pub findings : List Finding
  pub listed : List ℕ
  pub of_files : HaveFileTexts files lines file_notices file_warnings
  pub of_all : AreNetworkFindings parsed db findings
  pub of_lists : HaveListTexts db lists listed
  pub notices_are : notices ≡ file_notices ++ lines_of true (codes "database") findings
  pub warnings_are : warnings ≡ (file_warnings ++ lines_of false (codes "database") findings) ++ listed
