use Rattle.std.proofs.Common.{◌≡◌, ℕ, List, inl, inr, ⊎_elim, subst}
use Rattle.std.proofs.lemmas.Result.{on_ok_weaker}
use Rattle.next_hops.specs.declared.hop.Hop.{Hop}
use Rattle.next_hops.specs.steps.Passing.{IsTight, IsPassed, IsExtended, arc_of, first_at}
use Rattle.next_hops.specs.steps.Table.{Hands, kept_list}
use Rattle.next_hops.proofs.Tables.{Hands-then}
use Rattle.next_hops.proofs.passing.pass_edge.Goals as goal

pub returns : goal.returns
returns g c =
    let t = c.args.graph.now in
    let tree = c.args.tree.now in
    let n = c.args.source.now.number in
    let from = c.args.source.now.vertex in
    let hops : List Hop = kept_list c.args.table.now n in
    let e = c.args.edge.now in
    let middle = c.pass_first.new.table in
    let arc = arc_of from e in
    let tight : IsTight tree.distances arc = c.if-not-is_tight.ensures.yes in
    on_ok_weaker c.pass_hops.result
    (λ more. Hands-then (λ (i : ℕ) (h : Hop). (i ≡ e.to) × (from ≡ tree.root) × (first_at t e.to e.link_data ≡ h))
    (λ (i : ℕ) (h : Hop). (i ≡ e.to) × IsExtended hops e.link_data h) (λ (i : ℕ) (h : Hop). (i ≡ e.to) × IsPassed t tree hops arc h)
    c.args.table.now middle c.pass_hops.new.table c.in_ok-pass_first.ensures
    (subst (λ (xs : List Hop). Hands (λ (i : ℕ) (h : Hop). (i ≡ e.to) × IsExtended xs e.link_data h) middle c.pass_hops.new.table)
    (c.in_ok-pass_first.ensures.keeps.same n c.requires.number) more)
    (λ i h r. ⊎_elim (λ p. inl (r.0, p.0, p.1)) (λ q. inr (r.0, q)) r.1.1)
    (λ i h either. ⊎_elim (λ p. (p.0, (tight, inl (p.1, p.2)))) (λ q. (q.0, (tight, inr q.1))) either))
    c.pass_hops.ensures
