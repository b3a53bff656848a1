use Rattle.std.proofs.Common.{◌∙◌, sym}
use Rattle.forwarding.proofs.OffLoops.{loop_free_alone}
use Rattle.forwarding.proofs.graph.ForwardingGraph.loop_unless_free.Goals as goal

pub returns-then-contains : goal.returns-then-contains
returns-then-contains g c =
    loop_free_alone c.args.self.now c.args.loop_free.now.keys c.requires c.args.router (sym c.contains.ensures ∙ c.if-contains.true)
