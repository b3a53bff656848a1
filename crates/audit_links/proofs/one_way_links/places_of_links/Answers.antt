use Rattle.std.proofs.Common.{[], ◌++◌, ◌∙◌, Bool, Option, ap}
use Rattle.std.specs.List.{cons_option, list_any}
use Rattle.area_graph.specs.declared.vertex.Vertex.{Vertex}
use Rattle.area_graph.specs.Vertex.{is_same}
use Rattle.audit_places.specs.Places.{PlaceValue}
use Rattle.link_report.proofs.NumberedLemmas.{numbered_all, numbered_more}
use Rattle.audit_links.specs.OneWay.{place_of_link, places_of_links}
use Rattle.audit_links.proofs.Taking.{takes_given}
use Rattle.audit_links.proofs.one_way_links.places_of_links.Goals as goal

pub loop-before-preserved : goal.loop-before-preserved
loop-before-preserved g c =
    let n = c.loop-before.before in
    let places = c.loop-before.places.items in
    numbered_more (takes_given (place_of_link c.args.area c.args.router (λ v. list_any (is_same v) c.args.ends.now))) c.args.links.now n n _ places _ _
    c.loop-before-test.true c.loop-before.invariant
    (c.in_ok-push_some.ensures ∙ ap (λ (o : Option PlaceValue). places ++ cons_option o []) c.place_of_link.ensures)

pub returns : goal.returns
returns g c =
    let leads : Vertex → Bool = λ v. list_any (is_same v) c.args.ends.now in
    let n = c.loop-before.before in
    numbered_all (takes_given (place_of_link c.args.area c.args.router leads)) c.args.links.now n n c.loop-before.places.items
    (places_of_links c.args.area c.args.router leads c.args.links.now) c.loop-before-test.false c.loop-before.invariant
