-- What a walk contains, whatever its format: the parts that its objects are.
use Rattle.std.specs.Prelude.{Bool, true, false, Option, Some, None}
use Rattle.findings.specs.declared.finding.Finding.TheVariants as findings
use Rattle.findings.specs.declared.part.Part.{Part}
use Rattle.findings.specs.declared.part.Part.TheVariants as parts
use Rattle.snmp_walk.specs.declared.parsed_object.ParsedObject.{ParsedObject}
use Rattle.snmp_walk.specs.declared.parsed_object.ParsedObject.TheVariants as contents

module _ {A : Type 0} where
  abbrev pub part_of : ParsedObject A → Option (Part A)
  part_of (contents.Lsa row observation) = Some (parts.Lsa observation)
  part_of (contents.Kind area) = Some (parts.Kind area)
  part_of (contents.Finding finding) = Some (parts.Finding finding)
  part_of (contents.Row row) = None
  part_of (contents.Count area count) = None
  part_of contents.Nothing = None
  part_of contents.Foreign = None

  -- whether it belongs to the OSPF-MIB; a name that cannot be read does not count
  abbrev pub is_of_mib : ParsedObject A → Bool
  is_of_mib (contents.Lsa row observation) = true
  is_of_mib (contents.Kind area) = true
  is_of_mib (contents.Finding findings.UnreadableName) = false
  is_of_mib (contents.Finding _) = true
  is_of_mib (contents.Row row) = true
  is_of_mib (contents.Count area count) = true
  is_of_mib contents.Nothing = true
  is_of_mib contents.Foreign = false
