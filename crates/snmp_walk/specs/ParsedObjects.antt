-- What the objects of a walk contain.
use Rattle.std.specs.Prelude.{ℕ, ◌==◌, ◌&&◌, Bool, not, List, length, map, Option, Some, None, if◌then◌else◌, Result, Ok, Err}
use Rattle.findings.specs.declared.finding.Finding.TheVariants as findings
use Rattle.findings.specs.declared.reported_lsa.ReportedLsa.{ReportedLsa}
use Rattle.findings.specs.declared.unused_reason.UnusedReason.{UnusedReason}
use Rattle.findings.specs.declared.unused_reason.UnusedReason.TheVariants.{NotOctets, Refused, Longer, OtherKey, NoArea}
use Rattle.lsa_codec.specs.declared.address.AreaId.{AreaId}
use Rattle.lsa_codec.specs.declared.fault.LsaFault.{LsaFault}
use Rattle.lsa_codec.specs.declared.key.Key.{Key}
use Rattle.lsa_codec.specs.Decoding.{decoded}
use Rattle.lsa_codec.specs.Key.{key_of}
use Rattle.lsa_instances.specs.declared.place.Scope.{Scope}
use Rattle.lsa_instances.specs.Order.{scope_of_report}
use Rattle.lsa_instances.specs.declared.area.AreaKind.{AreaKind}
use Rattle.snmp_walk.specs.declared.subject.Subject.{Subject}
use Rattle.snmp_walk.specs.declared.subject.Subject.TheVariants as subjects
use Rattle.snmp_walk.specs.declared.parsed_object.ParsedObject.{ParsedObject}
use Rattle.snmp_walk.specs.declared.parsed_object.ParsedObject.TheVariants.{Lsa, Kind, Finding, Nothing, Foreign}
use Rattle.snmp_walk.specs.declared.parsed_object.ParsedObject.TheVariants as contents
use Rattle.snmp_walk.specs.Objects.{Object, objects}
use Rattle.snmp_walk.specs.Subjects.{subject_of}
use Rattle.snmp_walk.specs.Values.{is_absent, is_end_of_view, kind_in, bytes_in, count_in}

abbrev pub same_key : Key → Key → Bool
same_key a b = (a.kind == b.kind) && ((a.id.0 == b.id.0) && (a.adv.0 == b.adv.0))

module _ {A : Type 0} where
  -- a row has no usable LSA
  abbrev pub fails : ReportedLsa → UnusedReason → ParsedObject A
  fails row reason = Finding (findings.Unused row reason)

  abbrev pub kind_of_area : AreaId → Option AreaKind → ParsedObject A
  kind_of_area area None = Finding (findings.UnreadableKind area)
  kind_of_area area (Some kind) = Kind (record { id = area; kind = kind })

  abbrev pub parsed_kind : AreaId → List ℕ → ParsedObject A
  parsed_kind area value = if is_end_of_view value then Nothing else kind_of_area area (kind_in value)

  abbrev pub in_scope : ReportedLsa → List ℕ → Option Scope → ParsedObject A
  in_scope row lsa None = fails row NoArea
  in_scope row lsa (Some scope) = Lsa row (record { scope = scope; seen = None; lsa = lsa })

  -- the LSA has the key of the index, and a scope
  abbrev pub placed : ReportedLsa → List ℕ → ParsedObject A
  placed row lsa =
      if not (same_key (key_of lsa) row.key) then fails row (OtherKey (key_of lsa))
      else in_scope row lsa (scope_of_report row.key.kind row.area)

  abbrev pub parsed_decoded : ReportedLsa → ℕ → Result (List ℕ) LsaFault → ParsedObject A
  parsed_decoded row bytes (Err fault) = fails row (Refused fault)
  parsed_decoded row bytes (Ok lsa) = if length lsa == bytes then placed row lsa else fails row Longer

  -- the bytes are an accepted LSA, and nothing follows it
  abbrev pub parsed_lsa : ReportedLsa → List ℕ → ParsedObject A
  parsed_lsa row bytes = parsed_decoded row (length bytes) (decoded bytes)

  abbrev pub parsed_value : ReportedLsa → Option (List ℕ) → ParsedObject A
  parsed_value row None = fails row NotOctets
  parsed_value row (Some bytes) = parsed_lsa row bytes

  abbrev pub parsed_bytes : ReportedLsa → List ℕ → ParsedObject A
  parsed_bytes row value = if is_end_of_view value then Nothing else parsed_value row (bytes_in value)

  abbrev pub parsed_column : ReportedLsa → List ℕ → ParsedObject A
  parsed_column row value = if is_end_of_view value then Nothing else contents.Row row

  abbrev pub count_of : Option AreaId → Option ℕ → ParsedObject A
  count_of area None = Nothing
  count_of area (Some count) = contents.Count area count

  abbrev pub parsed_count : Option AreaId → List ℕ → ParsedObject A
  parsed_count area value = count_of area (count_in value)

  abbrev pub parsed_of : Subject → List ℕ → ParsedObject A
  parsed_of (subjects.Kind area) value = parsed_kind area value
  parsed_of (subjects.Bytes row) value = parsed_bytes row value
  parsed_of (subjects.Column row) value = parsed_column row value
  parsed_of (subjects.Count area) value = parsed_count area value
  parsed_of subjects.Other value = Nothing
  parsed_of subjects.Unreadable value = Finding findings.UnreadableName
  parsed_of subjects.Foreign value = Foreign

  -- an object of the MIB that the agent does not have
  abbrev pub parsed_absent : Subject → ParsedObject A
  parsed_absent subjects.Foreign = Foreign
  parsed_absent _ = Finding findings.NoSuchObject

  -- what an object contains, by its name and its value
  abbrev pub parsed_by : Object → ParsedObject A
  parsed_by object =
      if is_absent object.value then parsed_absent (subject_of object.name) else parsed_of (subject_of object.name) object.value

  -- what each object of a walk contains
  unfoldable pub parsed_in : List ℕ → List (ParsedObject A)
  parsed_in text = map parsed_by (objects text)
