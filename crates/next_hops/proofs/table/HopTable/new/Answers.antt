use Rattle.std.proofs.Common.{◌≡◌, ℕ, zero, suc, ◌<◌, List, [], ◌∷◌, map, replicate, refl, sym, ap, ◌∙◌, subst, arith}
use Rattle.std.specs.List.{All}
use Rattle.std.proofs.lemmas.List.Elements.{All-replicate}
use Rattle.std.specs.declared.vec.Vec.{Vec}
use Rattle.next_hops.specs.declared.hop.Hop.{Hop}
use Rattle.next_hops.specs.declared.handed.Handed.TheVariants.{Nothing}
use Rattle.next_hops.specs.steps.Handed.{handed_hops, numbers_in}
use Rattle.next_hops.specs.steps.Shared.{AreJoins, AreSorted, AreWithin}
use Rattle.next_hops.proofs.table.HopTable.new.Goals as goal

no_hops : {A : Type 0} (lists : List (Vec Hop A)) (n : ℕ) → map (λ v. handed_hops lists v) (replicate n Nothing) ≡ replicate n []
no_hops lists zero = refl
no_hops lists (suc n) = ap (λ (rest : List (List Hop)). [] ∷ rest) (no_hops lists n)

pub returns-clause-none : goal.returns-clause-none
returns-clause-none g c =
    ap (λ vertices. map (λ v. handed_hops c.new.result.keys v) vertices) c.in_ok-none_handed.ensures ∙ no_hops c.new.result.keys c.args.count

pub returns-clause-whole : goal.returns-clause-whole
returns-clause-whole g c = record {
  sorted = subst (λ lists. AreSorted lists) (sym c.new.ensures.empty) (λ k d low. absurd (let l : k < 0 = low in omega arith));
  joined = subst (λ joins. AreJoins c.new.result.keys joins) (sym c.new-2.ensures.empty) (λ k d low. absurd (let l : k < 0 = low in omega arith));
  within = subst (λ vertices. All (λ v. AreWithin c.new.result.keys (numbers_in v)) vertices) (sym c.in_ok-none_handed.ensures)
      (All-replicate (λ v. AreWithin c.new.result.keys (numbers_in v)) c.args.count Nothing (λ k d low. absurd (let l : k < 0 = low in omega arith)));
}
