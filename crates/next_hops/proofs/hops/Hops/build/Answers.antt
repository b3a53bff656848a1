use Rattle.std.proofs.Common.{◌≡◌, ◌∙◌, ℕ, List, sym, ap, subst}
use Rattle.std.proofs.lemmas.Result.{IfOk-weaker}
use Rattle.area_graph.specs.declared.vertex.Vertex.{Vertex}
use Rattle.spf.specs.Distances.{IsTreeOf}
use Rattle.next_hops.specs.declared.hop.Hop.{Hop}
use Rattle.next_hops.specs.FirstHops.{AreHopsOf, table_of}
use Rattle.next_hops.specs.steps.Shared.{lists_in}
use Rattle.next_hops.proofs.hops.Hops.build.Goals as goal

pub returns-clause-table : goal.returns-clause-table
returns-clause-table g c =
    let lists = c.numbers.new.self.lists.keys in
    IfOk-weaker c.renumbering.result (λ (hops : List (List Hop)). hops ≡ lists_in lists c.deref.result.now)
    (λ (hops : List (List Hop)). (root : Vertex) → IsTreeOf c.args.graph.now root c.args.tree.now → hops ≡ table_of c.args.graph.now root)
    (λ hops is root of. is ∙ ap (λ (numbers : List ℕ). lists_in lists numbers) c.deref.ensures.value
    ∙ c.in_ok-numbers.ensures.lists ∙ c.in_ok-table.ensures.table root of)
    c.renumbering.ensures

pub returns-clause-paths : goal.returns-clause-paths
returns-clause-paths g c =
    let lists = c.numbers.new.self.lists.keys in
    IfOk-weaker c.renumbering.result (λ (hops : List (List Hop)). hops ≡ lists_in lists c.deref.result.now)
    (λ (hops : List (List Hop)). (root : Vertex) → IsTreeOf c.args.graph.now root c.args.tree.now → AreHopsOf c.args.graph.now root hops)
    (λ hops is root of. subst (λ (table : List (List Hop)). AreHopsOf c.args.graph.now root table)
    (sym (is ∙ ap (λ (numbers : List ℕ). lists_in lists numbers) c.deref.ensures.value ∙ c.in_ok-numbers.ensures.lists))
    (c.in_ok-table.ensures.paths root of))
    c.renumbering.ensures
