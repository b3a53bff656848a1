use Rattle.std.proofs.Common.{◌≡◌, ℕ, ◌<◌, eqb, List, [], length, map, get_or, ap, sym, subst, ◌∙◌, arith}
use Rattle.std.specs.List.{list_any}
use Rattle.std.proofs.lemmas.List.{get_or-map, length-map}
use Rattle.area_graph.specs.declared.edge.Edge.{Edge}
use Rattle.area_graph.specs.steps.Naming.{names_in, row_in}
use Rattle.area_graph.proofs.BackLinkSearch.{named_among}
use Rattle.area_graph.proofs.back_links.BackLinks.names.Goals as goal

pub returns-else-row-le-SHORT_ROW : goal.returns-else-row-le-SHORT_ROW
returns-else-row-le-SHORT_ROW g c =
    let rows = c.self.inside.naming in
    let all = c.self.inside.targets.items in
    let of = c.args.of in
    let within : of < length rows = subst (λ (rs : List (List Edge)). of < length rs) (sym c.self.view_is) c.requires in
    let long : 16 < length (row_in rows of) = subst (λ (row : List Edge). 16 < length row) c.row-row.ensures c.if-row-le-SHORT_ROW.false in
    let are = c.self.invariant.sorted.here of within long in
    let sized = length-map all (λ row. row.items) in
    let each = c.self.invariant.sorted.each in
    let at : get_or (map (λ row. row.items) all) of [] ≡ c.index.result.now.items =
    get_or-map (λ row. row.items) all of c.index.result.now [] (omega arith) ∙ ap (λ row. row.items) (sym c.index.ensures) in
    c.is_among.ensures
    ∙ ap (λ (ts : List ℕ). list_any (λ t. eqb t c.args.other) ts) (c.deref.ensures.value ∙ sym at)
    ∙ named_among (row_in rows of) (get_or (map (λ row. row.items) all) of []) c.args.other are
    ∙ ap (λ (rs : List (List Edge)). names_in rs of c.args.other) c.self.view_is
