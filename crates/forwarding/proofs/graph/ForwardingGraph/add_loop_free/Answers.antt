use Rattle.std.proofs.Common.{◌∙◌, sym}
use Rattle.forwarding.proofs.OffLoops.{loop_free_more}
use Rattle.forwarding.proofs.graph.ForwardingGraph.add_loop_free.Goals as goal

pub returns : goal.returns
returns g c = λ are.
    loop_free_more c.args.self.now c.args.loop_free.now.keys c.insert.new.self.keys c.args.router are c.in_ok-insert.ensures.keys
    (sym c.contains.ensures ∙ c.if-contains.false) (sym c.leads_only_into.ensures ∙ c.if-not-leads_only_into.false)
