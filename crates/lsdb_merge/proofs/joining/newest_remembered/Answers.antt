use Rattle.std.proofs.lemmas.Result.{IfOk-weaker}
use Rattle.forgotten_instances.specs.Forgotten.{remembered}
use Rattle.lsa_instances.specs.Newest.{AreSame}
use Rattle.lsdb_merge.proofs.joining.newest_remembered.Goals as goal

pub returns : goal.returns
returns g c =
    let reported = remembered c.args.observations.items in
    let known = c.in_ok-known.known.items in
    let same : AreSame known reported = (c.in_ok-known.ensures.1, c.in_ok-known.ensures.0) in
    IfOk-weaker c.newest.result _ _
    (λ newest h. c.newest_in_any_order.ensures.again c.args.flushed known reported newest.items same h)
    c.newest.ensures
