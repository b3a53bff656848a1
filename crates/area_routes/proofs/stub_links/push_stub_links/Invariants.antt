use Rattle.std.proofs.Common.{◌≡◌, ◌++◌}
use Rattle.std.specs.List.{filter_map}
use Rattle.area_routes.specs.StubLinks.{stub_link}
use Rattle.area_routes.proofs.stub_links.push_stub_links.Given as goal

-- the stub links among those so far are added
abbrev pub invariant-loop-link : goal.invariant-loop-link
invariant-loop-link g l = l.links.items ≡ l.initial.links.items ++ filter_map (stub_link l.vertex l.lsa) l.yielded
