use Rattle.std.proofs.Common.{[], ◌∷◌, ◌++◌, sym, ◌∙◌}
use Rattle.std.proofs.lemmas.Bool.{eq-eqb, ne_eqb}
use Rattle.network_names.proofs.NameSteps.{again, bad_name, fresh, reserved, taken}
use Rattle.network_names.proofs.lines.add_name.Goals as goal

pub returns-then-not-is_name : goal.returns-then-not-is_name
returns-then-not-is_name g c = λ all are.
    bad_name c.args.line all c.args.address c.args.word.now (sym c.is_name.ensures ∙ c.if-not-is_name.true)

pub returns-then-reads_otherwise : goal.returns-then-reads_otherwise
returns-then-reads_otherwise g c = λ all are.
    reserved c.args.line all c.args.address c.args.word.now (sym c.is_name.ensures ∙ c.if-not-is_name.false)
    (sym c.reads_otherwise.ensures ∙ c.if-reads_otherwise.true)

pub returns-in_default : goal.returns-in_default
returns-in_default g c = λ all are.
    let absent = sym (are.addresses c.args.word.now) ∙ sym c.in_default.ensures in
    record {
      all = all ++ (c.args.word.now, c.args.address) ∷ [];
      given_is = fresh c.args.line all c.args.address c.args.word.now (sym c.is_name.ensures ∙ c.if-not-is_name.false)
          (sym c.reads_otherwise.ensures ∙ c.if-reads_otherwise.false) absent;
      are = c.in_ok-add.ensures all are absent;
    }

pub returns-then-other-address : goal.returns-then-other-address
returns-then-other-address g c = λ all are. record {
  all = all;
  given_is = again c.args.line all c.args.address c.args.word.now (sym c.is_name.ensures ∙ c.if-not-is_name.false)
      (sym c.reads_otherwise.ensures ∙ c.if-reads_otherwise.false) c.in-Some.other
      (sym (are.addresses c.args.word.now) ∙ sym c.in-Some.ensures) (eq-eqb c.in-Some.other c.args.address c.if-other-address.true);
  are = are;
}

pub returns : goal.returns
returns g c = λ all are.
    taken c.args.line all c.args.address c.args.word.now (sym c.is_name.ensures ∙ c.if-not-is_name.false)
    (sym c.reads_otherwise.ensures ∙ c.if-reads_otherwise.false) c.in-Some.other
    (sym (are.addresses c.args.word.now) ∙ sym c.in-Some.ensures) (ne_eqb c.in-Some.other c.args.address c.if-other-address.false)
