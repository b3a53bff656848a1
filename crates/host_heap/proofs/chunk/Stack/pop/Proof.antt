-- `pop` reads the next top from the chunk, whose room is whole again. Assumes `Logic`.
use Rattle.host_heap.proofs.Steps.{◌≡◌, ℕ, zero, suc, ◌+◌, ◌<◌, List, [], ◌∷◌, ◌++◌, refl, ap, ◌∙◌, arith, ty_ptr, Fn, Val, SProp, emp}
use Rattle.host_heap.proofs.Steps.{fwand, fat, froom, full_share, Env, WpFn, fact, fact_i, tables, ‵, raw, ◌⊛◌, prop, at_ret, ◌$◌, ◌∵◌, ! }
use Rattle.host_heap.proofs.Steps.{qed, by, move, drop, use0, use1, use2, split, regoal, fsplit, fjoin, fpick, whole, sub, agg, stop, fld}
use Rattle.host_heap.proofs.Steps.{load, look, of_opd, no_more, and_then, first, blocks, exec, returns, enter, alloc_all, pass_all}
use Rattle.host_heap.proofs.Steps.{free_all, look_at, get, get_in, through, sets, sets_last, env, owns, Ptr, block_ptr, ptr_val, types_at}
use Rattle.host_heap.proofs.Steps.{nothing, heard, Tuple, alive, Stays, stay_dropped, walk_of, Goes-blank, after, and_tt, pair_of, pair_val}
use Rattle.host_heap.proofs.Steps.{proved_at, leaves, slot_at}
use seplogic.Ra.Ura.{Ura}
use base.Logic.{apply∗}
use types.Logic.{Logic}
use types.Kit.{Item, Goal, Seq}
use Rattle.host_heap.proofs.Values.{ptr_typed, wrap_val, wrap_own, wrap_value, wrap_made}
use Rattle.host_heap.specs.Ownership.{units_of, bytes_at, Link, stacked}
use Rattle.host_heap.specs.contracts.chunk.Chunk as chunk
use Rattle.host_heap.specs.contracts.chunk.Stack as stack
use Rattle.host_heap.specs.contracts.chunk.Stack.pop.{ended, clauses}
use Rattle.host_heap.specs.contracts.chunk.Stack.pop.Key.{name as #self}
use Rattle.host_heap.proofs.chunk.Stack.pop.Statement.{statement}
use Rattle.host_heap.proofs.chunk.Stack.pop.Code as compiled

module _ {M : Type 1} {𝓤 : Ura M} {𝓛 : Logic 𝓤} {K : Type 0} {Γ : List (Item 𝓤)} {G : Goal 𝓤 𝓛.H} (n : ℕ) where
  -- a stack that is not empty has a chunk on top
  topmost : K → (k : ℕ) (p : Ptr) → 0 < k
      → ((m : ℕ) (l : Link) → k ≡ suc m → p ≡ block_ptr l.block l.start
      → Seq K 𝓛 (‵ (fat full_share ty_ptr l.block l.start (ptr_val l.next)) ∷
      ‵ (fwand (froom ty_ptr l.block l.start) (froom (units_of n) l.block l.start)) ∷ ‵ (stacked n m l.next) ∷ Γ) G)
      → Seq K 𝓛 (‵ (stacked n k p) ∷ Γ) G
  topmost t zero p some go = absurd (omega arith)
  topmost t (suc m) p some go = fpick t (λ l. fsplit t $ fpick t (λ at. fsplit t $ go m l refl at))

pub pop_spec : {M : Type 1} → statement M
pop_spec 𝓤 𝓛 𝓜 𝓡 wired =
    let H = 𝓛.H in let En₀ = ended in let c = clauses 𝓛 𝓜.mem 𝓡.returns in let fn : Fn = compiled.function in
    let stays : Stays En₀.signature.params En₀.kept = (stay_dropped (slot_at 0 En₀.signature.params) En₀.kept.0, tt) in
    let C = (tables 𝓤 H 𝓜 𝓡 𝓡.env).C in let Λ = (tables 𝓤 H 𝓜 𝓡 𝓡.env).Λ in
    proved_at 𝓛 En₀ stays c 𝓜 𝓡 (Goes-blank 𝓛 0 (slot_at 0 En₀.signature.params) En₀.kept.0 (λ κs x f. tt), tt) #self fn
    (compiled.unfolded 𝓤 H 𝓜 𝓡 wired) (λ z are.
    let Post : Val → SProp 𝓤 = (walk_of 𝓛 En₀ stays c).post z in let a = z.0.3 in let vss = z.0.4 in
    let s = a.0 in let n = s.size in let Asked : Type 0 = 0 < s.count in
    qed 𝓛 ((raw (alive 𝓛 En₀.signature z.0.0 z.0.1) ⊛ ‵ (owns (types_at En₀.signature.params z.0.0) a vss)) ∷ raw (fact 𝓤 Asked) ∷ []) ∵
    move ! (1 ∷ []) $ heard ! Asked (λ asked. split ! $ move ! (1 ∷ []) $
    fsplit ! $ fsplit ! $ drop ! $ move ! (1 ∷ []) $ drop ! $ topmost n ! s.count s.top asked (λ m k more at.
    let b = k.block in let o = k.start in let start : Ptr = block_ptr b o in let next = k.next in
    regoal ! (λ (us : List Val). prop (WpFn 𝓤 H C Λ fn us Post)) (λ i. (wrap_value s.top vss.0 are.0.0 ∙ ap (λ (p : Ptr). wrap_val p ∷ []) at) i ++ []) refl $
    enter ! C Λ fn (wrap_val start ∷ []) Post $
    alloc_all ! (λ l. pass_all ! refl ((tt, (tt, tt)), tt) $ let En : Env 𝓤 𝓛.H = env fn.locals l in
    sets ! (of_opd ! (get_in ! (fld ! refl (stop !)) (sub ! 0 refl (whole !)))) refl (tt, tt) $
    first ! $ blocks ! $
    sets ! (of_opd ! (get ! refl)) refl (tt, tt) $
    sets_last ! (of_opd ! (load ! (through ! refl (stop !)) (look ! 0 refl))) refl (ptr_typed next) $
    exec ! C Λ En (after 2 fn.body) (at_ret En Post) $
    sets ! (of_opd ! (get ! refl)) refl (ptr_typed next) $
    sets ! (agg ! (and_then ! (get ! refl) (no_more !))) refl (tt, (tt, tt)) $
    sets ! (agg ! (and_then ! (get ! refl) (no_more !))) refl (and_tt _ ((ptr_typed next).0), ((ptr_typed next).1, tt)) $
    sets ! (agg ! (and_then ! (get ! refl) (and_then ! (get ! refl) (no_more !)))) refl
    (and_tt _ (and_tt _ ((ptr_typed next).0)), ((tt, tt), (((ptr_typed next).1, tt), tt))) $
    returns ! (look_at ! 0 refl) $ free_all ! refl $
    use1 𝓛 (‵ (froom ty_ptr b o)) (𝓛.laws.at_room ty_ptr b o (ptr_val next)) $
    use2 𝓛 (‵ (bytes_at start n)) (apply∗ 𝓤 (H.room ty_ptr b o) (H.room (units_of n) b o)) $
    let y : (chunk.the_row).Denot = record { ptr = start; size = n } in let w : (stack.the_row).Denot = record { top = next; size = n; count = m } in
    let Holds : Type 0 = (n ≡ n) × (n ≡ n) × (m + 1 ≡ s.count) in
    use0 𝓛 (‵ (wrap_own start (wrap_val start ∷ []))) (wrap_made 𝓛 start) $ fjoin ! $ move ! (1 ∷ []) $
    use0 𝓛 (‵ (wrap_own next (wrap_val next ∷ []))) (wrap_made 𝓛 next) $ fjoin ! $ move ! (1 ∷ 0 ∷ []) $
    use2 𝓛 (‵ ((Tuple (chunk.the_row ∷ stack.the_row ∷ [])).own_val (y, w) (pair_val (wrap_val start) (wrap_val next) ∷ [])))
    (pair_of 𝓛 chunk.the_row stack.the_row y w (wrap_val start) (wrap_val next)) $
    use0 𝓛 (raw (fact 𝓤 Holds)) (fact_i 𝓤 Holds (emp 𝓤) (refl, refl, omega (arith, more))) $ nothing ! $ nothing ! $ fjoin ! $ move ! (3 ∷ 0 ∷ 2 ∷ 1 ∷ []) $
    by ! (leaves 𝓛 En₀ stays c z (pair_val (wrap_val start) (wrap_val next)) (y, w) (tt, tt) (tt, tt))))))
