use Rattle.std.proofs.Common.{◌≡◌, ◌∙◌, ◌≤◌, List, length, sym, ap, arith}
use Rattle.std.proofs.lemmas.Result.{IfOk-weaker}
use Rattle.lsa_codec.specs.declared.address.RouterId.{RouterId}
use Rattle.lsdb.specs.Lists.{Lists}
use Rattle.first_ends.specs.FirstEnds.{route_ends}
use Rattle.hop_ends.specs.Owners.{far_ends}
use Rattle.hop_ends.proofs.FewEnds.{several_ends}
use Rattle.hop_ends.proofs.area_graphs.AreaGraphs.ends_over.Goals as goal

pub returns : goal.returns
returns g c =
    IfOk-weaker c.route_ends.result _ _ (λ v h. λ db are.
    let far = far_ends db c.args.router c.args.interface in
    let ends = λ (d : Lists). route_ends (record { db = d; router = c.args.router }) c.args.net c.args.interface in
    let sized : length c.in_ok-ends.ends.items ≡ length far = ap (λ (l : List RouterId). length l) (c.in_ok-ends.ensures db are) in
    let several : 2 ≤ length far = omega arith in
    h ∙ ap ends are.database ∙ sym (several_ends far (ends db) several))
    c.route_ends.ensures
