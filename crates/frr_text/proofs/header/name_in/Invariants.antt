use Rattle.std.proofs.Common.{◌≡◌, drop}
use Rattle.frr_text.specs.Words.{words}
use Rattle.frr_text.specs.Rules.{first_of_all}
use Rattle.frr_text.specs.Fields.{ls_types, name_as}
use Rattle.frr_text.proofs.header.name_in.Given as goal

abbrev pub invariant-loop-ls_type : goal.invariant-loop-ls_type
invariant-loop-ls_type l = first_of_all name_as (drop l.ls_type-index ls_types) (words l.text) ≡ first_of_all name_as ls_types (words l.text)
