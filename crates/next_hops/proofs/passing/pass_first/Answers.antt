use Rattle.std.proofs.Common.{◌≡◌, ℕ, List, [], ◌∷◌, sym, ◌∙◌, subst, arith}
use Rattle.std.specs.List.{Contains}
use Rattle.std.proofs.lemmas.Result.{on_ok_weaker}
use Rattle.next_hops.specs.declared.hop.Hop.{Hop}
use Rattle.next_hops.specs.steps.Passing.{first_at}
use Rattle.next_hops.specs.steps.Table.{kept_list}
use Rattle.next_hops.proofs.Growing.{Contains-one, one-Contains}
use Rattle.next_hops.proofs.Tables.{Hands-same, Stays-Hands}
use Rattle.next_hops.proofs.passing.pass_first.Goals as goal

pub returns : goal.returns
returns g c =
    let to = c.args.edge.now.to in
    let hop = c.first_hop.result in
    let middle = c.number_of.new.self in
    let list : kept_list middle c.in_ok-number.number ≡ hop ∷ [] = c.in_ok-number.ensures.list in
    let at_root : c.args.from ≡ c.args.tree.now.root = omega arith in
    on_ok_weaker c.hand.result
    (λ hands. Stays-Hands (λ (i : ℕ) (h : Hop). (i ≡ to) × (c.args.from ≡ c.args.tree.now.root) × (first_at c.args.graph.now to c.args.edge.now.link_data ≡ h))
    c.args.table.now middle c.hand.new.self c.in_ok-number.ensures.stays
    (Hands-same (λ (i : ℕ) (h : Hop). (i ≡ to) × Contains (kept_list middle c.in_ok-number.number) h)
    (λ (i : ℕ) (h : Hop). (i ≡ to) × (c.args.from ≡ c.args.tree.now.root) × (first_at c.args.graph.now to c.args.edge.now.link_data ≡ h))
    middle c.hand.new.self
    (λ i h p. (p.0, at_root, sym c.first_hop.ensures ∙ Contains-one hop h (subst (λ (xs : List Hop). Contains xs h) list p.1)))
    (λ i h q. (q.0, subst (λ (xs : List Hop). Contains xs h) (sym list) (one-Contains hop h (c.first_hop.ensures ∙ q.2)))) hands))
    c.hand.ensures
