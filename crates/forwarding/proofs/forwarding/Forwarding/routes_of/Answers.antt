use Rattle.std.proofs.Common.{rules, ap, ◌∙◌}
use Rattle.std.proofs.lemmas.List.Sorted.{answers_always}
use Rattle.lsa_codec.proofs.OrderLemmas.{router_total}
use Rattle.best_ways.proofs.SearchLemmas.{found_at, not_found}
use Rattle.forwarding.specs.Graphs.{routes_at}
use Rattle.forwarding.proofs.forwarding.Forwarding.routes_of.Goals as goal

pub returns-in-Ok : goal.returns-in-Ok
returns-in-Ok g c =
    let at = c.in-Ok.ensures.position (λ r. r.router) (answers_always _ _ _ (λ f a r h called. search rules)) in
    found_at router_total (λ r. r.router) c.args.router c.routers-routers.result.now c.in-Ok.index c.routers-routers.ensures.sorted c.in-Ok.ensures.bound at
    c.index-routers-index.result c.index-routers-index.is
    ∙ ap (λ routers. routes_at routers c.args.router) c.routers-routers.ensures.routers

pub returns-in-Err : goal.returns-in-Err
returns-in-Err g c =
    let at = c.in-Err.ensures.position (λ r. r.router) (answers_always _ _ _ (λ f a r h called. search rules)) in
    not_found router_total (λ r. r.router) c.args.router c.routers-routers.result.now c.in-Err.field-0 c.routers-routers.ensures.sorted at
    ∙ ap (λ routers. routes_at routers c.args.router) c.routers-routers.ensures.routers
