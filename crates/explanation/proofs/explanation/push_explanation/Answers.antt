use Rattle.std.proofs.Common.{◌≡◌, ◌++◌, ◌∙◌, subst, sym}
use Rattle.std.specs.Option.{option_copied}
use Rattle.std.proofs.lemmas.Result.{on_ok_weaker}
use Rattle.network_names.specs.Names.{called}
use Rattle.explanation.specs.Texts.{ExplanationValue, explanation_text, head_text}
use Rattle.explanation.proofs.Joined.{joined}
use Rattle.explanation.proofs.explanation.push_explanation.Goals as goal

pub returns : goal.returns
returns g c =
    let called = called c.args.names.now in
    let text = c.args.text.now.items in
    let e : ExplanationValue = record {
      route = option_copied c.as_ref.result;
      candidates = c.deref-2.result.now;
      ways = c.deref-3.result.now;
      rests = c.deref-4.result.now;
    } in
    let inside : ExplanationValue = record {
      route = c.explanation.inside.route;
      candidates = c.explanation.inside.candidates.items;
      ways = c.explanation.inside.ways.items;
      rests = c.explanation.inside.rests.items;
    } in
    let same : e ≡ inside = λ i. record {
      route = c.as_ref.ensures.value i;
      candidates = c.deref-2.ensures.value i;
      ways = c.deref-3.ensures.value i;
      rests = c.deref-4.ensures.value i;
    } in
    let those = c.deref.ensures.value ∙ sym c.deref-2.ensures.value in
    let head =
    subst (λ x. c.push_head.new.text.items ≡ text ++ head_text called (option_copied c.as_ref.result) x) those c.in_ok-push_head.ensures in
    let is : e ≡ c.args.explanation.now = same ∙ c.explanation.view_is in
    on_ok_weaker c.push_lines-3.result
    (λ last. subst (λ (x : ExplanationValue). c.push_lines-3.new.text.items ≡ text ++ explanation_text called x) is
    (joined called text c.push_head.new.text.items c.push_lines.new.text.items c.push_lines-2.new.text.items c.push_lines-3.new.text.items e
    head c.in_ok-push_lines.ensures c.in_ok-push_lines-2.ensures last))
    c.push_lines-3.ensures
