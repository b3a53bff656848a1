use Rattle.lsa_codec.specs.Key.{router_key}
use Rattle.lsdb.specs.declared.section.Section.TheVariants.{Area}
use Rattle.edit_history.proofs.NamedLsas.{first_of_key, kind_is}
use Rattle.edit_history.proofs.lookup.router_lsa_in.Goals as goal

pub returns-clause-kind : goal.returns-clause-kind
returns-clause-kind g c =
    kind_is c.args.database.now (Area c.args.area) (router_key c.args.router) c.in-Some.slot c.in-Some-get.lsa.now
    (first_of_key c.args.database.now (Area c.args.area) c.of_router.result (router_key c.args.router) c.in-Some.slot c.in-Some-get.lsa.now
    c.of_router.ensures c.in-Some.ensures c.in-Some-get.ensures)
