use Rattle.area_graph.proofs.BackLinkSearch.{found_among}
use Rattle.area_graph.proofs.back_links.is_found.Goals as goal

pub returns : goal.returns
returns c = found_among c.args.targets.now c.args.vertex c.binary_search.result c.requires c.binary_search.ensures.bound c.binary_search.ensures.position c.is_ok.result c.is_ok.ensures.value
