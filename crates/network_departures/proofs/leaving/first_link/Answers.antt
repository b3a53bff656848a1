use Rattle.std.proofs.Common.{rules, tests, sym, ◌∙◌}
use Rattle.std.proofs.lemmas.Iterator.Adapters.{option_map_id}
use Rattle.std.proofs.lemmas.Iterator.Search.{find_from_yields_List}
use Rattle.std.proofs.lemmas.Iterator.Consumers.{YieldsList-from_first}
use Rattle.lsa_codec.specs.Making.{leads_to_net}
use Rattle.lsa_codec.specs.Links.{links_of}
use Rattle.network_departures.proofs.leaving.first_link.Goals as goal

pub returns : goal.returns
returns c =
    sym (option_map_id c.find.result)
    ∙ find_from_yields_List (leads_to_net c.args.address) _ _ c.find.result c.find.ensures.ran
    (YieldsList-from_first (λ x. x) (λ s. s) (links_of c.args.lsa.now) c.links.ensures)
    (λ x b q k. search (rules, tests))
