use Rattle.std.proofs.Common.{◌≡◌, map, take}
use Rattle.lsdb.specs.Lists.{Lists}
use Rattle.forwarding.specs.Graphs.{step_of}
use Rattle.hop_ends.specs.Owners.{AreGraphsOf}
use Rattle.forwarding.proofs.forwarding.Forwarding.graph.Given as goal

-- the routers so far, each with its match
abbrev pub invariant-loop-routes : goal.invariant-loop-routes
invariant-loop-routes g l = record {
  routers : map (λ s. s.router) l.steps.items ≡ map (λ r. r.router) (take l.routes-index l.routes-items);
  steps : (db : Lists) → AreGraphsOf db l.self.graphs → l.steps.items ≡ map (step_of db l.address) (take l.routes-index l.routes-items);
}
