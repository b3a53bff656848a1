use Rattle.lsdb.specs.Slots.{lists_of}
use Rattle.routing_table.proofs.KeptMaps.{has_vertex}
use Rattle.routing_table.proofs.kept_trees.KeptTrees.grow.Goals as goal

pub grow_in-requires : goal.grow_in-requires
grow_in-requires g c = has_vertex (lists_of c.args.database.now) c.add_graph.new.self c.args.area c.args.router
    c.assert_valid.ensures c.add_graph.ensures.graphs c.requires.attached (c.in_ok-add_graph.ensures.there c.args.router c.requires.attached)
