use Rattle.std.proofs.Common.{◌∙◌, Option, ap}
use Rattle.std.specs.List.{list_any}
use Rattle.area_graph.specs.declared.vertex.Vertex.{Vertex}
use Rattle.area_graph.specs.Vertex.{is_same}
use Rattle.audit_links.specs.OneWay.{place_to}
use Rattle.audit_links.proofs.one_way_links.place_of_link.Goals as goal

pub returns-in-Some : goal.returns-in-Some
returns-in-Some g c =
    c.place_to.ensures
    ∙ ap (λ (o : Option Vertex). place_to c.args.area c.args.router (λ v. list_any (is_same v) c.args.ends.now) c.args.before o) c.in-Some.ensures

pub returns-in-None : goal.returns-in-None
returns-in-None g c =
    ap (λ (o : Option Vertex). place_to c.args.area c.args.router (λ v. list_any (is_same v) c.args.ends.now) c.args.before o) c.in-None.ensures
