use Rattle.std.proofs.Common.{◌≡◌, drop, map}
use Rattle.edit_script.specs.Words.{words}
use Rattle.network_names.specs.Names.{stands_for}
use Rattle.study_hints.specs.ArgumentHints.{first_hint}
use Rattle.study_hints.proofs.argument_hint.push_first_hint.Given as goal

abbrev pub invariant-loop-role : goal.invariant-loop-role
invariant-loop-role g l = record {
  text : l.text.items ≡ l.initial.text.items;
  hint : first_hint (stands_for l.names) (map (λ name. name.now) l.known) (drop l.role-index l.roles) (words l.rest)
      ≡ first_hint (stands_for l.names) (map (λ name. name.now) l.known) l.roles (words l.line);
}
