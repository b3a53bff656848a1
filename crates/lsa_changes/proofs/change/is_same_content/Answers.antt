use Rattle.std.proofs.Common.{◌≡◌, ◌-◌, ℕ, List, length, take, drop, ap, ◌∙◌, arith, length-drop}
use Rattle.std.specs.Str.{bytes_eq}
use Rattle.std.proofs.lemmas.List.{take_all}
use Rattle.lsa_changes.proofs.change.is_same_content.Goals as goal

whole : (l : List ℕ) → take (length l - 20) (drop 20 l) ≡ drop 20 l
whole l = take_all (length l - 20) (drop 20 l) (omega (arith, length-drop 20 l))

pub returns : goal.returns
returns c =
    let now = c.args.now.now in
    c.eq.ensures ∙ ap (λ l. bytes_eq l (take (length now - 20) (drop 20 now))) (whole c.args.before.now)
    ∙ ap (λ l. bytes_eq (drop 20 c.args.before.now) l) (whole now)
