use Rattle.std.proofs.Common.{◌∙◌, ◌++◌, List, ap}
use Rattle.lsa_codec.specs.Order.{prefix_cmp}
use Rattle.lsdb.specs.Slots.{lists_of}
use Rattle.area_graph.specs.Rising.{rising}
use Rattle.forwarding.specs.Graphs.{routers_of}
use Rattle.forwarding.specs.Matches.{RouterValue}
use Rattle.loop_report.specs.Atoms.{nets_of_all}
use Rattle.loop_report.proofs.compared.Compared.of.Goals as goal

pub returns : goal.returns
returns g c =
    let was = c.in_ok-was.was in
    let is = c.in_ok-is.is' in
    record {
      before = c.in_ok-was.ensures;
      now = c.in_ok-is.ensures;
      hops = c.in_ok-hops.ensures (lists_of c.args.is.now) c.in_ok-is.ensures.graphs;
      atoms = c.in_ok-atoms.ensures
          ∙ ap (λ (rs : List RouterValue). rising prefix_cmp (nets_of_all rs ++ nets_of_all is.routers)) c.in_ok-was.ensures.routers
          ∙ ap (λ (rs : List RouterValue). rising prefix_cmp (nets_of_all (routers_of (lists_of c.args.was.now)) ++ nets_of_all rs)) c.in_ok-is.ensures.routers;
    }
