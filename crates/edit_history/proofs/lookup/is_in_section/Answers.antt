use Rattle.std.proofs.Common.{◌∙◌}
use Rattle.lsa_codec.specs.Key.{router_key}
use Rattle.edit_history.proofs.Searches.{key_in}
use Rattle.edit_history.proofs.lookup.is_in_section.Goals as goal

pub returns : goal.returns
returns g c = c.is_some.ensures ∙ key_in c.args.database.now c.args.section c.of_router.result (router_key c.args.router)
    c.find_in.result c.of_router.ensures c.find_in.ensures
