use Rattle.std.proofs.Common.{◌≡◌, take}
use Rattle.area_routes.specs.StubLinks.{stub_links_from}
use Rattle.area_routes.proofs.stub_links.stub_links.Given as goal

-- the links are those of the vertices so far
abbrev pub invariant-loop-vertex : goal.invariant-loop-vertex
invariant-loop-vertex g l = l.links.items ≡ stub_links_from 0 (take l.vertex l.lsas)
