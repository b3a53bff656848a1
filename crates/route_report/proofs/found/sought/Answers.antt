use Rattle.std.proofs.Common.{◌++◌, List, ap, ◌∙◌}
use Rattle.lsdb.specs.Lists.{AreaHead, areas_of}
use Rattle.lsdb.specs.Slots.{lists_of}
use Rattle.interfaces.specs.declared.interface.Interface.{Interface}
use Rattle.area_routes.proofs.AddsLemmas.{flat_map_adds}
use Rattle.route_report.specs.LinksOver.{id_of, sought_in}
use Rattle.route_report.proofs.Grown.{one_more_at}
use Rattle.route_report.proofs.found.sought.Goals as goal

pub loop-i-preserved : goal.loop-i-preserved
loop-i-preserved g c =
    let db = lists_of c.args.database.now in
    let head : AreaHead = record { id = c.area-is_stub.result.0.0; is_stub = c.area-is_stub.result.1 } in
    one_more_at (flat_map_adds (λ (area : AreaHead). sought_in db c.args.what (id_of area))) (areas_of db) c.loop-i.i head
    c.loop-i.found.items c.append.new.self.items c.area-is_stub.ensures c.loop-i.invariant
    (c.in_ok-append.ensures.items ∙ ap (λ (l : List Interface). c.loop-i.found.items ++ l) c.in_ok-more.ensures)
