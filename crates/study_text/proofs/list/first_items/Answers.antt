use Rattle.std.proofs.Common.{ap, take, ◌∙◌}
use Rattle.std.proofs.lemmas.List.{take_min}
use Rattle.study_text.proofs.list.first_items.Goals as goal

pub returns : goal.returns
returns g c = ap (λ n. take n c.args.items.now) c.min.ensures ∙ take_min 3 c.args.items.now
