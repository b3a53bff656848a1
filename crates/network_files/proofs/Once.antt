-- A file has one content.
use Rattle.std.proofs.Common.{◌≡◌, ◌∙◌, ℕ, refl, sym, ap, append_assoc, Bool, true, false, List, [], ◌∷◌, ◌++◌}
use Rattle.std.specs.Prelude.{Option, map}
use Rattle.std.specs.List.{filter_map}
use Rattle.std.proofs.lemmas.List.{append-nil}
use Rattle.std.proofs.lemmas.List.Elements.{filter_map-append}
use Rattle.capture_files.specs.Captures.{IsOfFormat}
use Rattle.capture_files.specs.Pcap.{IsPcap}
use Rattle.capture_files.specs.Pcapng.{IsPcapng, has_section}
use Rattle.capture_files.specs.CaptureTexts.{CaptureText}
use Rattle.findings.specs.declared.finding.Finding.{Finding}
use Rattle.findings.specs.declared.finding.Finding.TheVariants as findings
use Rattle.findings.specs.declared.part.Part.{Part}
use Rattle.findings.specs.declared.reported_lsa.ReportedLsa.{ReportedLsa}
use Rattle.findings.specs.declared.unused_reason.UnusedReason.TheVariants.{Missing}
use Rattle.findings.specs.Contents.{ContentLists, content_of, header_of, kind_of, observation_of}
use Rattle.network_files.proofs.Documents.{one_document}
use Rattle.network_files.specs.declared.kind.FileKind.{FileKind}
use Rattle.network_files.specs.declared.kind.FileKind.TheVariants.{Capture, Json, Printed, Walk}
use Rattle.network_files.specs.ParsedFiles.{HasContent, databases_in}
use Rattle.ospf_packets.specs.Contents as captures
use Rattle.snmp_walk.specs.Contents as walks
use Rattle.snmp_walk.specs.Counts.{fewer_part}
use Rattle.snmp_walk.specs.Missing.{missing_row}
use Rattle.snmp_walk.specs.ParsedObjects.{parsed_in}
use Rattle.snmp_walk.specs.Sorting.{part_of}

-- ---- findings about a walk as a whole add nothing to the databases

no_observations : (A : Type 0) (found : List Finding) → filter_map (observation_of {A = A}) (map fewer_part found) ≡ []
no_observations A [] = refl
no_observations A (one ∷ found) = no_observations A found

no_kinds : (A : Type 0) (found : List Finding) → filter_map (kind_of {A = A}) (map fewer_part found) ≡ []
no_kinds A [] = refl
no_kinds A (one ∷ found) = no_kinds A found

no_headers : (A : Type 0) (found : List Finding) → filter_map (header_of {A = A}) (map fewer_part found) ≡ []
no_headers A [] = refl
no_headers A (one ∷ found) = no_headers A found

-- rows that are missing, before other findings
abbrev all_found : List ReportedLsa → List Finding → List Finding
all_found rows found = map (λ row. findings.Unused row Missing) rows ++ found

as_findings : (A : Type 0) (rows : List ReportedLsa) (found : List Finding)
    → map (missing_row {A = A}) rows ++ map fewer_part found ≡ map fewer_part (all_found rows found)
as_findings A [] found = refl
as_findings A (row ∷ rows) found = ap (λ rest. missing_row row ∷ rest) (as_findings A rows found)

module _ {A : Type 0} where
  nothing_more : {X : Type 0} (f : Part A → Option X) (these : List (Part A)) (found : List Finding) → filter_map f (map fewer_part found) ≡ []
      → filter_map f (these ++ map fewer_part found) ≡ filter_map f these
  nothing_more f these found none =
      filter_map-append f these (map fewer_part found) ∙ ap (λ rest. filter_map f these ++ rest) none ∙ append-nil (filter_map f these)

  alone : (these : List (Part A)) (found : List Finding) → databases_in (content_of (these ++ map fewer_part found)) ≡ databases_in (content_of these)
  unfolding content_of
  alone these found = λ i. (
    nothing_more observation_of these found (no_observations A found) i,
    (nothing_more kind_of these found (no_kinds A found) i, nothing_more header_of these found (no_headers A found) i),
  )

  same_databases : (these : List (Part A)) (rows : List ReportedLsa) (found : List Finding)
      → databases_in (content_of (these ++ map missing_row rows ++ map fewer_part found)) ≡ databases_in (content_of these)
  same_databases these rows found =
      ap (λ all. databases_in (content_of all)) (append_assoc these (map missing_row rows) (map fewer_part found))
      ∙ ap (λ rest. databases_in (content_of (these ++ rest))) (as_findings A rows found) ∙ alone these (all_found rows found)

-- ---- files of each kind

module _ (pcap : (file : List ℕ) (a b : CaptureText) → IsPcap file a → IsPcap file b → a ≡ b)
    (pcapng : (file : List ℕ) (a b : CaptureText) → IsPcapng file a → IsPcapng file b → a ≡ b) where
  one_capture : (is_pcapng : Bool) (file : List ℕ) (a b : CaptureText) → IsOfFormat is_pcapng file a → IsOfFormat is_pcapng file b → a ≡ b
  one_capture true = pcapng
  one_capture false = pcap

  module _ {A : Type 0} (bytes : List ℕ) (one two : ContentLists A) where
    by_capture : captures.HasContent bytes one → captures.HasContent bytes two → one ≡ two
    by_capture a b =
        let same = one_capture (has_section bytes) bytes a.capture b.capture a.read b.read in
        a.whole ∙ ap (λ (capture : CaptureText). content_of (captures.parts_in capture.packets capture.end)) same ∙ sym b.whole

    by_walk : walks.HasContent bytes one → walks.HasContent bytes two → databases_in one ≡ databases_in two
    by_walk a b =
        let found : List (Part A) = filter_map part_of (parsed_in bytes) in
        ap databases_in a.whole ∙ same_databases found a.rows a.fewer ∙ sym (same_databases found b.rows b.fewer) ∙ sym (ap databases_in b.whole)

    pub one_reading : (kind : FileKind) → HasContent kind bytes one → HasContent kind bytes two → databases_in one ≡ databases_in two
    one_reading Capture a b = ap databases_in (by_capture a b)
    one_reading Json a b = ap databases_in (one_document bytes one two a b)
    one_reading Printed a b = ap databases_in (a ∙ sym b)
    one_reading Walk a b = by_walk a b
