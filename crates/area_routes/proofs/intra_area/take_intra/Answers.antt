use Rattle.std.proofs.Common.{List, ap, sym, ◌∙◌}
use Rattle.area_routes.specs.Intra.{intra_of}
use Rattle.area_routes.specs.Values.{AreaResultValue}
use Rattle.area_routes.proofs.OneArea.{one_of}
use Rattle.area_routes.proofs.intra_area.take_intra.Goals as goal

pub returns-clause-routes : goal.returns-clause-routes
returns-clause-routes g c =
    c.intra_of_one.ensures.routes
    ∙ ap (λ (rs : List AreaResultValue). intra_of rs) (sym (one_of c.args.results.now c.index-results-0.result c.if-results-ne1.false))
