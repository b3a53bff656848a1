use Rattle.std.proofs.Common.{◌∙◌}
use Rattle.lsa_codec.proofs.OrderLemmas.{router_total}
use Rattle.forwarding.proofs.Insertions.{found_among}
use Rattle.forwarding.proofs.on_the_way.is_among.Goals as goal

pub returns : goal.returns
returns c =
    c.is_ok.ensures.value
    ∙ found_among router_total c.args.routers.now c.args.router c.binary_search.result c.requires c.binary_search.ensures.bound c.binary_search.ensures.position
