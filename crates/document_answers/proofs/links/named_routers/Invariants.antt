use Rattle.std.proofs.Common.{◌≡◌, map, take}
use Rattle.network_names.specs.Names.{called}
use Rattle.document_answers.specs.LinkDocuments.{router_json_of}
use Rattle.document_answers.proofs.links.named_routers.Given as goal

-- the routers so far
abbrev pub invariant-loop-line : goal.invariant-loop-line
invariant-loop-line g l = map (λ r. router_json_of (called r.names.now) r.line.now) l.routers.items
    ≡ map (router_json_of (called l.names)) (take l.line-index l.lines)
