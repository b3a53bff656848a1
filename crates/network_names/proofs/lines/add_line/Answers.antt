use Rattle.std.proofs.Common.{List, Result, sym, ap, subst, ◌∙◌}
use Rattle.network_names.specs.Words.{words}
use Rattle.network_names.specs.Fault.{FaultAt}
use Rattle.network_names.specs.File.{Takes}
use Rattle.network_names.specs.Names.{Named}
use Rattle.network_names.proofs.LineSteps.{ipv6, no_words, of_entry}
use Rattle.network_names.proofs.lines.add_line.Goals as goal

pub returns-in_default : goal.returns-in_default
returns-in_default g c = λ all are. record {
  all = all;
  given_is = no_words c.args.line all _ (sym (ap words c.before_comment.ensures) ∙ c.in_default.ensures.value);
  are = are;
}

pub returns-then-has_colon : goal.returns-then-has_colon
returns-then-has_colon g c = λ all are. record {
  all = all;
  given_is = ipv6 c.args.line all _ c.in-Some.word.now (words c.in-Some.others.now)
      (sym (ap words c.before_comment.ensures) ∙ c.in-Some.ensures.value.0) (sym c.has_colon.ensures ∙ c.if-has_colon.true);
  are = are;
}

pub returns : goal.returns
returns g c = λ all are.
    subst (λ (given : Result (List Named) FaultAt). Takes c.add_entry.result given c.add_entry.new.names)
    (sym (of_entry c.args.line all _ c.in-Some.word.now (words c.in-Some.others.now)
    (sym (ap words c.before_comment.ensures) ∙ c.in-Some.ensures.value.0) (sym c.has_colon.ensures ∙ c.if-has_colon.false)))
    (c.add_entry.ensures all are)
