use Rattle.std.proofs.Common.{◌≡◌, drop}
use Rattle.frr_text.specs.Words.{words}
use Rattle.frr_text.specs.Rules.{first_of_all}
use Rattle.frr_text.specs.Bodies.{link_types, link_as}
use Rattle.frr_text.proofs.router.link_in.Given as goal

abbrev pub invariant-loop-link_type : goal.invariant-loop-link_type
invariant-loop-link_type l = first_of_all link_as (drop l.link_type-index link_types) (words l.text) ≡ first_of_all link_as link_types (words l.text)
