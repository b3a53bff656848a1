use Rattle.interfaces.proofs.FarEnds.{ends_back, ends_face, no_ends, some_end}
use Rattle.interfaces.proofs.laws.far_ends_lead_back.Goals as goal

pub returns : goal.returns
returns c = record {
  back = λ router own theirs. ends_back router own theirs;
  some = λ router own x theirs. some_end router own theirs x;
  facing = λ router own x theirs. ends_face router own theirs x;
  others = λ router own theirs. no_ends router own theirs;
}
