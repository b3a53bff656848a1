use Rattle.change_lines.proofs.Added.{in_three}
use Rattle.change_lines.proofs.found.push_unlisted.Goals as goal

pub returns : goal.returns
returns g c =
    in_three c.push_first_three.result c.args.text.now.items _ _ _ _ _ _ c.in_ok-push_counted.ensures c.in_ok-push_counted-2.ensures
    c.push_first_three.ensures
