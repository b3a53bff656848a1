use Rattle.std.proofs.Common.{rules, tests, not, ◌∙◌}
use Rattle.std.proofs.lemmas.Iterator.{items_from_collect}
use Rattle.std.proofs.lemmas.Iterator.Consumers.{YieldsList-from_first, YieldsList-from_filter}
use Rattle.lsa_codec.specs.Making.{is_end_of}
use Rattle.lsa_codec.specs.Links.{links_of}
use Rattle.lsa_codec.proofs.relink.links_elsewhere.Goals as goal

pub returns : goal.returns
returns g c =
    items_from_collect c.collect.result c.collect.ensures.ran (
    YieldsList-from_filter _ (λ link. not (is_end_of c.args.target link))
    (YieldsList-from_first (λ x. x) (λ s. s) (links_of c.args.router.now) (c.filter.ensures.source ∙ c.links.ensures))
    c.filter.ensures.closure (λ x b q k. search (rules, tests)))
