use Rattle.std.proofs.Common.{arith}
use Rattle.finding_json.specs.Differences.{difference_json}
use Rattle.finding_json.specs.Findings.{found_json, place_json}
use Rattle.study_documents.proofs.NestingLemmas.{array_shallow}
use Rattle.finding_json.proofs.Nesting.{difference_shallow, found_shallow}
use Rattle.finding_json.proofs.laws.findings_nest_little.Goals as goal

pub returns-clause-differences : goal.returns-clause-differences
returns-clause-differences c lines = omega (arith, array_shallow difference_json 2 difference_shallow lines)

pub returns-clause-findings : goal.returns-clause-findings
returns-clause-findings c findings = omega (arith, array_shallow found_json 1 found_shallow findings)

pub returns-clause-places : goal.returns-clause-places
returns-clause-places c kind places = omega (arith, array_shallow place_json 0 (λ p. omega arith) places)
