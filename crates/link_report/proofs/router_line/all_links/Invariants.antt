use Rattle.std.proofs.Common.{◌≡◌, take}
use Rattle.std.specs.List.{flat_map}
use Rattle.lsa_codec.specs.Links.{links_of}
use Rattle.link_report.proofs.router_line.all_links.Given as goal

-- the links of the LSAs so far
abbrev pub invariant-loop-lsa : goal.invariant-loop-lsa
invariant-loop-lsa g l = l.links.items ≡ flat_map links_of (take l.lsa-index l.lsas)
