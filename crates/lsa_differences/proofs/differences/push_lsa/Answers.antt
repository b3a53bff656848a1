use Rattle.std.proofs.Common.{◌≡◌, ◌++◌, map, sym, ◌∙◌}
use Rattle.std.specs.Option.{option_copied}
use Rattle.std.proofs.lemmas.Result.{on_ok_weaker}
use Rattle.lsa_changes.specs.Changes.{lsa_changes}
use Rattle.lsa_differences.specs.declared.line.DifferenceLine.TheVariants.{Lsa}
use Rattle.lsa_differences.specs.Differences.{lsa_lines}
use Rattle.lsa_differences.proofs.differences.push_lsa.Goals as goal

pub returns-in_ok-lsa_changes-in-Some-Some : goal.returns-in_ok-lsa_changes-in-Some-Some
returns-in_ok-lsa_changes-in-Some-Some g c =
    let old = c.args.lines.now.items in
    let changes : c.deref.result.now ≡ lsa_changes c.in-Some-Some.before.now c.in-Some-Some.now.now =
    c.deref.ensures.value ∙ c.in_ok-lsa_changes-in-Some-Some.ensures in
    on_ok_weaker c.push_changes-in-Some-Some.result
    (λ pushed. pushed ∙ (λ i. old ++ map (Lsa (c.of-name-in-Some-Some.ensures i)) (changes i))
    ∙ (λ i. old ++ lsa_lines c.args.area (option_copied (sym c.in-Some-Some.is-0 i)) (option_copied (sym c.in-Some-Some.is-1 i))))
    c.push_changes-in-Some-Some.ensures
