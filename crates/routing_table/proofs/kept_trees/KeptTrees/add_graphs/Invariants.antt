use Rattle.std.proofs.Common.{◌≡◌}
use Rattle.lsa_codec.specs.declared.address.AreaId.{AreaId}
use Rattle.lsa_codec.specs.declared.address.RouterId.{RouterId}
use Rattle.lsdb.specs.Slots.{lists_of}
use Rattle.routing_table.specs.AreasTrees.{AreOfDatabase, trees_in}
use Rattle.routing_table.proofs.kept_trees.KeptTrees.add_graphs.Given as goal

abbrev pub invariant-loop-i : goal.invariant-loop-i
invariant-loop-i g l = record {
  graphs : AreOfDatabase (lists_of l.database) l.self;
  trees : (other : AreaId) (root : RouterId) → trees_in l.self other root ≡ trees_in l.initial.self other root;
}
