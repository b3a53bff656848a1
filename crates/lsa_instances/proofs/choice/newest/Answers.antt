use Rattle.std.proofs.lemmas.List.Sorted.{IsPermutation-sym}
use Rattle.std.proofs.lemmas.Result.{IfOk-weaker}
use Rattle.lsa_instances.proofs.Reordered.{reordered}
use Rattle.lsa_instances.proofs.SameLemmas.{same_in_order}
use Rattle.lsa_instances.proofs.choice.newest.Goals as goal

pub returns : goal.returns
returns g c =
    let reported = c.args.observations.items in
    let sorted = c.in_ok-sorted.field-0.items in
    let same = same_in_order sorted reported (IsPermutation-sym reported sorted c.in_ok-sorted.ensures.same) in
    IfOk-weaker c.newest_of_sorted.result _ _ (λ newest h. reordered sorted reported same c.args.flushed newest.items h) c.newest_of_sorted.ensures
