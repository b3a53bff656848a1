use Rattle.std.proofs.Common.{ap, ◌∙◌, rules, tests}
use Rattle.std.proofs.lemmas.Iterator.Search.{any_from_yields_List}
use Rattle.std.proofs.lemmas.Iterator.Consumers.{YieldsList-from_first}
use Rattle.lsa_codec.specs.Making.{leads_to}
use Rattle.lsa_codec.specs.Links.{links_of}
use Rattle.edit_history.proofs.failures.has_link_to.Goals as goal

pub returns : goal.returns
returns g c =
    any_from_yields_List (leads_to c.args.router) _ _ c.any.result c.any.ensures.ran
    (YieldsList-from_first (λ x. x) (λ s. s) (links_of c.args.lsa.now) (c.links.ensures ∙ ap links_of c.in-Some.ensures.0))
    (λ x b q k. search (rules, tests))
