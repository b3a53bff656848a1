use Rattle.std.proofs.Common.{ap, take, ◌∙◌}
use Rattle.std.proofs.lemmas.List.{take_min}
use Rattle.study_hints.proofs.escape.front.Goals as goal

pub returns : goal.returns
returns c = ap (λ n. take n c.args.word.now) c.min.ensures ∙ take_min 64 c.args.word.now
