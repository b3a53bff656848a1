use Rattle.std.proofs.Common.{sym, ◌∙◌}
use Rattle.lsdb.specs.Slots.{lists_of}
use Rattle.interfaces.proofs.RouterLsas.{kind_of_router_lsa, viewed}
use Rattle.interfaces.proofs.router_lsa.router_lsa_of.Goals as goal

pub returns : goal.returns
returns g c =
    let lsa = c.in_ok-lsa.lsa.now in
    viewed c.router.result lsa c.router.ensures
    (kind_of_router_lsa (lists_of c.args.database.now) c.args.area c.args.router lsa (sym c.in_ok-lsa.ensures)) ∙ c.in_ok-lsa.ensures
