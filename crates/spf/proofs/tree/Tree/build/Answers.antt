use Rattle.area_graph.specs.declared.vertex.Vertex.TheVariants.{Router}
use Rattle.spf.specs.steps.Search.{IsSettled}
use Rattle.spf.proofs.Trees.{IsTreeOf-settled}
use Rattle.spf.proofs.WholeTree.{tree-is}
use Rattle.spf.proofs.tree.Tree.build.Goals as goal

pub returns-clause-tree : goal.returns-clause-tree
returns-clause-tree g c =
    let t = c.args.graph.now in
    let tree = c.in_ok-grow.field-0 in
    let settled : IsSettled t tree.root tree.distances tree.order = rw c.in_ok-grow.ensures.root c.in_ok-grow.ensures.settled in
    IsTreeOf-settled t c.in-Some.ensures.shape tree.root tree.distances tree.order settled
    (Router c.args.root) (rw c.in_ok-grow.ensures.root c.in-Some.ensures.number)

pub returns-clause-whole : goal.returns-clause-whole
returns-clause-whole g c = tree-is c.args.graph.now c.in-Some.ensures.shape (Router c.args.root) _ (returns-clause-tree g c)
