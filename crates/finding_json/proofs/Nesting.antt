-- How deep differences and findings nest.
use Rattle.std.proofs.Common.{◌≤◌, List, [], ◌∷◌, arith}
use Rattle.json.specs.Tree.{depth}
use Rattle.lsa_differences.specs.declared.line.DifferenceLine.{DifferenceLine}
use Rattle.lsa_differences.specs.declared.line.DifferenceLine.TheVariants as line
use Rattle.audit_places.specs.Places.{PlaceValue}
use Rattle.audit_report.specs.Findings.{FindingValue}
use Rattle.study_json.specs.Leaves.{area_json}
use Rattle.study_documents.proofs.NestingLemmas.{option_shallow}
use Rattle.finding_json.specs.Differences.{difference_json}
use Rattle.finding_json.specs.Findings.{first_json, found_json}
use Rattle.finding_json.proofs.NestingLemmas.{lsa_shallow}

pub difference_shallow : (d : DifferenceLine) → depth (difference_json d) ≤ 2
difference_shallow (line.Area area change) = omega arith
difference_shallow (line.Lsa name change) = omega (arith, option_shallow area_json 0 (λ a. omega arith) name.area, lsa_shallow name)

first_shallow : (places : List PlaceValue) → depth (first_json places) ≤ 0
first_shallow [] = omega arith
first_shallow (place ∷ places) = omega arith

pub found_shallow : (f : FindingValue) → depth (found_json f) ≤ 1
found_shallow f = omega (arith, first_shallow f.places)
