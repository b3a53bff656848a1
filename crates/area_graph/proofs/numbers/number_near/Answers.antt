use Rattle.std.proofs.Common.{◌≡◌, Some, sym, ap, ◌∙◌, rules}
use Rattle.std.specs.Option.{option_copied}
use Rattle.area_graph.specs.declared.vertex.Vertex.{Vertex}
use Rattle.area_graph.proofs.Arcs.{number_at}
use Rattle.area_graph.proofs.numbers.number_near.Goals as goal

pub returns-in-Some-clause-number : goal.returns-in-Some-clause-number
returns-in-Some-clause-number g c =
    let same : c.in-Some.other.now ≡ c.args.vertex = search rules in
    sym (number_at c.args.vertices.now.keys c.requires c.args.near c.args.vertex
    (sym c.get_index.ensures.key ∙ ap option_copied c.in-Some.is ∙ ap (λ (v : Vertex). Some v) same))
