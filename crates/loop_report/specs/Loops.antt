-- Loops of forwarding graphs, each with the prefix of its atom.
use Rattle.std.specs.Prelude.{◌≡◌, List, map}
use Rattle.lsa_codec.specs.Prefix.{Net}
use Rattle.lsa_codec.specs.declared.address.RouterId.{RouterId}
use Rattle.forwarding.specs.Graphs.{StepValue, next_in}
use Rattle.microloops.specs.Changeover.{AreAllLoops, AreMicroloops, routers_of}

pub record LoopValue : Type 0 where
  pub net : Net
  pub routers : List RouterId

abbrev pub at_net : Net → List RouterId → LoopValue
at_net net loop = record { net = net; routers = loop }

-- the loops of a graph
abbrev pub AreLoopsOf : Net → List StepValue → List LoopValue → Type 0
AreLoopsOf net graph found =
    (loops : List (List RouterId)) × AreAllLoops (next_in graph) (routers_of graph) loops × (found ≡ map (at_net net) loops)

-- those of the graph now
abbrev pub AreLoopsNow : Net → List StepValue → List StepValue → List LoopValue → Type 0
AreLoopsNow net was is found = AreLoopsOf net is found

-- the loops of both graphs together
abbrev pub AreJointLoops : Net → List StepValue → List StepValue → List LoopValue → Type 0
AreJointLoops net was is found = (loops : List (List RouterId)) × AreMicroloops was is loops × (found ≡ map (at_net net) loops)
