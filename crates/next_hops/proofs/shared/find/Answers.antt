use Rattle.next_hops.proofs.Sharing.{found_list}
use Rattle.next_hops.proofs.shared.find.Goals as goal

pub returns-clause-list : goal.returns-clause-list
returns-clause-list g c = found_list _ c.hop_equality.ensures c.args.hops.now c.args.lists.now.keys c.get_index_of.result c.get_index_of.ensures.index
