use Rattle.std.proofs.Common.{◌∙◌, List, Option, sym, subst}
use Rattle.std.specs.Prelude.{MatchOption}
use Rattle.lsa_codec.specs.declared.address.RouterId.{RouterId}
use Rattle.forwarding.specs.Graphs.{StepValue, next_in}
use Rattle.forwarding.specs.Walks.{IsLoopOf, IsOnCycle}
use Rattle.forwarding.proofs.LoopLists.{found_first, not_first}
use Rattle.forwarding.proofs.OffLoops.{alone}
use Rattle.forwarding.proofs.graph.ForwardingGraph.loop_from.Goals as goal

-- what is returned of a router's loop
abbrev IsReturned : List StepValue → RouterId → Option (List RouterId) → Type 0
IsReturned graph router found = MatchOption found (¬ IsOnCycle (next_in graph) router) (IsLoopOf (next_in graph) router)

pub returns-in_default : goal.returns-in_default
returns-in_default g c =
    alone c.args.self.now c.args.router (subst (IsReturned c.args.self.now c.args.router) c.in_default.is c.in_ok-found.ensures)

pub returns-then-not-is_first : goal.returns-then-not-is_first
returns-then-not-is_first g c =
    not_first c.args.self.now c.args.router c.in-Some.found (subst (IsReturned c.args.self.now c.args.router) c.in-Some.is c.in_ok-found.ensures)
    (sym c.is_first.ensures ∙ c.if-not-is_first.true)

pub returns : goal.returns
returns g c =
    found_first c.args.self.now c.args.router c.in-Some.found (subst (IsReturned c.args.self.now c.args.router) c.in-Some.is c.in_ok-found.ensures)
    (sym c.is_first.ensures ∙ c.if-not-is_first.false)
