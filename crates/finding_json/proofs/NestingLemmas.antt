-- How deep what names LSAs nests.
use Rattle.std.proofs.Common.{◌≤◌, Option, None, Some, arith}
use Rattle.json.specs.Tree.{depth, members_depth}
use Rattle.lsa_codec.specs.Prefix.{Net}
use Rattle.lsa_names.specs.declared.lsa_name.LsaName.{LsaName}
use Rattle.study_json.specs.Fields.{members_by}
use Rattle.study_json.specs.Leaves.{area_json}
use Rattle.study_documents.proofs.NestingLemmas.{option_shallow}
use Rattle.finding_json.specs.Lsas.{lsa_json, prefix_fields}

prefix_shallow : (net : Option Net) → members_depth (members_by (prefix_fields net)) ≤ 0
prefix_shallow None = omega arith
prefix_shallow (Some net) = omega arith

pub lsa_shallow : (name : LsaName) → depth (lsa_json name) ≤ 1
lsa_shallow name = omega (arith, option_shallow area_json 0 (λ a. omega arith) name.area, prefix_shallow name.net)
