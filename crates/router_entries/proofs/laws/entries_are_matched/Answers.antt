use Rattle.best_ways.specs.Routes.{route_to}
use Rattle.forwarding.specs.Matches.{has_net}
use Rattle.router_entries.proofs.Matched.{is_entry}
use Rattle.router_entries.proofs.laws.entries_are_matched.Goals as goal

pub returns : goal.returns
returns c = λ db r net. is_entry db r.router net (has_net r.own net) (route_to r.routes net)
