use Rattle.std.proofs.Common.{◌≡◌, ℕ, ◌<◌, ◌≤◌, List, [], length, get_or, replicate, sym, subst, arith, ◌∙◌, ⊎_elim}
use Rattle.std.proofs.lemmas.Bool.{cases_lt}
use Rattle.std.proofs.lemmas.List.{length-replicate, get_or-replicate, get_or_past}
use Rattle.std.proofs.lemmas.List.Elements.{All-replicate, All-get_or}
use Rattle.std.specs.List.{Contains}
use Rattle.next_hops.specs.declared.hop.Hop.{Hop}
use Rattle.next_hops.specs.Hop.{IsSortedHops}
use Rattle.next_hops.specs.FirstHops.{hops_at}
use Rattle.next_hops.specs.steps.Passing.{IsPassedFrom}
use Rattle.next_hops.specs.steps.Table.{Hands, hops_so_far}
use Rattle.next_hops.proofs.Handing.{HandedOn, HandedOn-next, AreHopsOf-handed}
use Rattle.next_hops.proofs.HopsOf.{table-is}
use Rattle.next_hops.proofs.hops.pass_all.Goals as goal

empty_at : (n w : ℕ) → hops_at (replicate n []) w ≡ []
empty_at n w = ⊎_elim (λ lt. get_or-replicate n w [] [] lt)
    (λ le. get_or_past (replicate n []) w [] (subst (λ (m : ℕ). m ≤ w) (sym (length-replicate n [])) le)) (cases_lt w n)

none_at : (n w : ℕ) (h : Hop) → Contains (hops_at (replicate n []) w) h → ⊥
none_at n w h there =
    let q : Contains [] h = subst (λ (xs : List Hop). Contains xs h) (empty_at n w) there in
    let low : q.0 < 0 = q.1 in
    omega arith

pub loop-from-init : goal.loop-from-init
loop-from-init g c = record {
  handed = subst (λ (xs : List (List Hop)). HandedOn c.args.graph.now c.args.tree.now 0 xs) (sym c.in_ok-table.ensures.none) (record {
    sized = length-replicate c.len.result [] ∙ c.len.ensures.count;
    sound = λ w h there. absurd (none_at c.len.result w h there);
    handed = λ k lt e h arc from passed. absurd (let low : k < 0 = lt in omega arith);
    sorted = All-replicate IsSortedHops c.len.result [] (λ i j d lt low. absurd (let l : j < 0 = low in omega arith));
  });
  whole = c.in_ok-table.ensures.whole;
}

pub pass_on-requires-clause-from : goal.pass_on-requires-clause-from
pass_on-requires-clause-from g c =
    let at = All-get_or (λ (i : ℕ). i < length c.args.tree.now.distances) c.order-from-items.result.now c.loop-from.from-index 0
    c.loop-from-test.true c.order-from-items.ensures.within in
    subst (λ (n : ℕ). c.from.result < n) c.requires.tree.1.sized (rw c.from.ensures at)

pub loop-from-preserved : goal.loop-from-preserved
loop-from-preserved g c =
    let t = c.args.graph.now in
    let tree = c.args.tree.now in
    let p = c.loop-from.from-index in
    let old = c.loop-from.table in
    let new = c.pass_on.new.table in
    let within : p < length tree.order = subst (λ (xs : List ℕ). p < length xs) c.order-from-items.ensures.order c.loop-from-test.true in
    let handed : Hands (λ (i : ℕ) (h : Hop). IsPassedFrom t tree (hops_at (hops_so_far old) (get_or tree.order p 0)) (get_or tree.order p 0) i h) old new =
    subst (λ (xs : List ℕ). Hands (λ (i : ℕ) (h : Hop). IsPassedFrom t tree (hops_at (hops_so_far old) (get_or xs p 0)) (get_or xs p 0) i h) old new)
    c.order-from-items.ensures.order (rw c.from.ensures at c.in_ok-pass_on.ensures) in
    record {
      handed = HandedOn-next t c.len.ensures.shape c.requires.tree.0 tree c.requires.tree.1 p (hops_so_far old) (hops_so_far new)
          within c.loop-from.invariant.handed handed.grows;
      whole = handed.whole;
    }

pub returns-clause-paths : goal.returns-clause-paths
returns-clause-paths g c = λ root of.
    let past : length c.args.tree.now.order ≤ c.loop-from.from-index =
    subst (λ (xs : List ℕ). length xs ≤ c.loop-from.from-index) c.order-from-items.ensures.order c.loop-from-test.false in
    AreHopsOf-handed c.args.graph.now c.len.ensures.shape root c.args.tree.now of (hops_so_far c.loop-from.table) c.loop-from.from-index
    past c.loop-from.invariant.handed

pub returns-clause-table : goal.returns-clause-table
returns-clause-table g c =
    λ root of. table-is c.args.graph.now c.len.ensures.shape root (hops_so_far c.loop-from.table) c.loop-from.invariant.handed.sorted
    (returns-clause-paths g c root of)
