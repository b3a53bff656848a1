use Rattle.std.proofs.Common.{rules, ap, ◌∙◌}
use Rattle.std.proofs.lemmas.List.Sorted.{answers_always}
use Rattle.best_ways.specs.Routes.{route_to}
use Rattle.lsa_codec.proofs.OrderLemmas.{prefix_total}
use Rattle.best_ways.proofs.SearchLemmas.{found_at, not_found}
use Rattle.best_ways.proofs.route_list.Routes.route_to.Goals as goal

pub returns-in-Ok : goal.returns-in-Ok
returns-in-Ok g c =
    let at = c.in-Ok.ensures.position (λ r. r.net) (answers_always _ _ _ (λ f a r h called. search rules)) in
    found_at prefix_total (λ r. r.net) c.args.net c.as_slice-routes.result.now c.in-Ok.index c.as_slice-routes.ensures.sorted c.in-Ok.ensures.bound at
    c.index-routes-index.result c.index-routes-index.is
    ∙ ap (λ routes. route_to routes c.args.net) c.as_slice-routes.ensures.routes

pub returns-in-Err : goal.returns-in-Err
returns-in-Err g c =
    let at = c.in-Err.ensures.position (λ r. r.net) (answers_always _ _ _ (λ f a r h called. search rules)) in
    not_found prefix_total (λ r. r.net) c.args.net c.as_slice-routes.result.now c.in-Err.field-0 c.as_slice-routes.ensures.sorted at
    ∙ ap (λ routes. route_to routes c.args.net) c.as_slice-routes.ensures.routes
