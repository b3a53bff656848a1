-- `deallocate` has the whole block back from the room by the token, and keeps it. Assumes `Logic`.
use Rattle.host_heap.proofs.Steps.{◌≡◌, ℕ, ◌%◌, ◌^◌, ◌<◌, ◌≤◌, List, [], ◌∷◌, ◌++◌, refl, sym, ap, subst, ◌∙◌, arith, w64, Ty, Fn, Val}
use Rattle.host_heap.proofs.Steps.{vint, vptr, vunit, SProp, emp, never, id⊢, ftrue, Env, WpFn, fact, fact_i, tables, ‵, raw, ◌⊛◌, some}
use Rattle.host_heap.proofs.Steps.{later, prop, ◌$◌, ◌∵◌, !, qed, by, move, keep, drop, use0, use1, use2, split, split3, join, pick, regoal}
use Rattle.host_heap.proofs.Steps.{fsplit, fjoin, fpick, feq_l, feq_i, flt_i, await, agg, unit_lit, of_opd, no_more, and_then, returns}
use Rattle.host_heap.proofs.Steps.{enter, alloc_all, pass_all, free_all, look_at, get, sets, lands_as, env, owns, unit, usize, Ptr}
use Rattle.host_heap.proofs.Steps.{block_ptr, ptr_val, room_for, in_a_block, types_at, nothing, heard, only, alive, Stays, stay_dropped}
use Rattle.host_heap.proofs.Steps.{walk_of, Goes-dropped, proved_at, leaves, slot_at}
use base.Logic.{apply∗}
use prog.Memory.{size, align, capped}
use prog.Capped.{capped_is}
use types.Logic.{sem}
use denote.Triple.Spec.{triple_of}
use denote.Triple.Call.{calls_at}
use denote.Triple.Clauses.{Lasts, lasts}
use Rattle.core.proofs.atomic.Steps.{fm}
use Rattle.host_heap.proofs.Values.{wrap_val, wrap_own, wrap_made}
use Rattle.host_heap.proofs.Memory.{power_of_units, one_size}
use Rattle.host_heap.specs.Ownership.{bytes_at, IsBlockSize, block_token}
use Rattle.host_heap.specs.contracts.chunk.Chunk as chunk
use Rattle.host_heap.specs.contracts.heap.block_size as sizer
use Rattle.host_heap.proofs.heap.block_size.Met.{met as sizes}
use Rattle.host_heap.specs.contracts.heap.HostHeap.give as callee
use Rattle.host_heap.proofs.heap.HostHeap.give.Met.{met as gives}
use Rattle.host_heap.specs.contracts.heap.HostHeapAllocator.deallocate.{ended, clauses}
use Rattle.host_heap.specs.contracts.heap.HostHeapAllocator.deallocate.Key.{name as #self}
use Rattle.host_heap.proofs.heap.HostHeapAllocator.deallocate.Statement.{statement}
use Rattle.host_heap.proofs.heap.HostHeapAllocator.deallocate.Code as compiled

pub deallocate_spec : {M : Type 1} → statement M
deallocate_spec 𝓤 𝓛 𝓜 𝓡 wired =
    let H = 𝓛.H in let En₀ = ended in let c = clauses 𝓛 𝓜.mem 𝓡.returns in let fn : Fn = compiled.function in
    let stays : Stays En₀.signature.params En₀.kept = (
      stay_dropped (slot_at 0 En₀.signature.params) En₀.kept.0,
      (
        stay_dropped (slot_at 1 En₀.signature.params) En₀.kept.1.0,
        (
          stay_dropped (slot_at 2 En₀.signature.params) En₀.kept.1.1.0,
          (stay_dropped (slot_at 3 En₀.signature.params) En₀.kept.1.1.1.0, tt),
        ),
      ),
    ) in
    let C = (tables 𝓤 H 𝓜 𝓡 𝓡.env).C in let Λ = (tables 𝓤 H 𝓜 𝓡 𝓡.env).Λ in
    proved_at 𝓛 En₀ stays c 𝓜 𝓡 (
      Goes-dropped 𝓛 1 (slot_at 0 En₀.signature.params) En₀.kept.0 (λ κs x f. refl),
      (
        Goes-dropped 𝓛 1 (slot_at 1 En₀.signature.params) En₀.kept.1.0 (λ κs x f. refl),
        (
          Goes-dropped 𝓛 1 (slot_at 2 En₀.signature.params) En₀.kept.1.1.0 (λ κs x f. refl),
          (Goes-dropped 𝓛 1 (slot_at 3 En₀.signature.params) En₀.kept.1.1.1.0 (λ κs x f. refl), tt),
        ),
      ),
    ) #self fn
    (compiled.unfolded 𝓤 H 𝓜 𝓡 wired) (λ z are.
    let Post : Val → SProp 𝓤 = (walk_of 𝓛 En₀ stays c).post z in let a = z.0.3 in let vss = z.0.4 in
    let τ : Ty = z.1 in let from = a.1.0 in let n = a.1.1.0 in let al = a.1.1.1.0 in
    let me : Val = vptr a.0.ref_ptr.0 a.0.ref_ptr.1 in
    let k₀ = triple_of 𝓛 sizer.signature (sizer.spec 𝓛 𝓜.mem 𝓡.returns) in
    let y₀ : k₀.Ghost = ((tt, tt, tt, (n, tt), (vint w64 n ∷ [], tt)), tt) in
    let k = triple_of 𝓛 callee.signature (callee.spec 𝓛 𝓜.mem 𝓡.returns) in
    let Asked : Type 0 = (capped (size τ) ≡ n) × (capped (align τ) ≡ al) in
    qed 𝓛 ((raw (alive 𝓛 En₀.signature z.0.0 z.0.1) ⊛ ‵ (owns (types_at En₀.signature.params z.0.0) a vss)) ∷
    (raw (fact 𝓤 Asked) ⊛ ‵ (room_for τ from) ⊛ ‵ (block_token τ from)) ∷ []) ∵
    move ! (1 ∷ []) $ split3 ! $ heard ! Asked (λ asked. move ! (1 ∷ []) $ fpick ! (λ m. fpick ! (λ block. move ! (1 ∷ 0 ∷ []) $
    use2 𝓛 (‵ (bytes_at from m)) (apply∗ 𝓤 (sem 𝓛 (room_for τ from)) (sem 𝓛 (bytes_at from m))) $
    in_a_block ! from (λ p. bytes_at p m) (id⊢ 𝓤 (never 𝓤)) (λ b o at. let p : Ptr = block_ptr b o in
    let same : size τ ≡ n = sym (capped_is (size τ) (omega (arith, block.1))) ∙ asked.0 in
    let is : IsBlockSize n m = subst (λ (j : ℕ). IsBlockSize j m) same block.0 in
    let low : n ≤ 2 ^ 40 = omega (arith, same, block.1) in let fits : m < 2 ^ 64 = omega (arith, is.2, low) in
    let large : 16 ≤ m = omega (arith, is.1) in let whole : m % 16 ≡ 0 = power_of_units m is.0 large in
    move ! (1 ∷ []) $ split ! $ move ! (1 ∷ []) $ fsplit ! $ fsplit ! $ keep ! (4 ∷ 1 ∷ 3 ∷ []) $
    regoal ! (λ (us : List Val). prop (WpFn 𝓤 H C Λ fn us Post))
    (λ i. are.0.0 i ++ ((are.1.0 ∙ ap (λ (u : Ptr). ptr_val u ∷ []) at) i ++ (are.1.1.0.0 i ++ (are.1.1.1.0.0 i ++ [])))) refl $
    enter ! C Λ fn (me ∷ vptr b o ∷ vint w64 n ∷ vint w64 al ∷ []) Post $
    alloc_all ! (λ l. pass_all ! refl
    ((tt, tt), ((tt, tt), ((tt, record { fits = are.1.1.0.1 }), ((tt, record { fits = are.1.1.1.0.1 }), tt)))) $
    let En : Env 𝓤 𝓛.H = env fn.locals l in
    -- block_size(size)
    use0 𝓛 (raw (fact 𝓤 (n ≤ 2 ^ 40))) (fact_i 𝓤 (n ≤ 2 ^ 40) (emp 𝓤) low) $ nothing ! $ flt_i ! n (2 ^ 64) are.1.1.0.1 $
    feq_i ! (List Val) (vint w64 n ∷ []) (vint w64 n ∷ []) refl $ fjoin ! $ fjoin ! $ nothing ! $ join ! $ join ! $
    use1 𝓛 (raw (k₀.pre y₀)) (id⊢ 𝓤 _) $
    calls_at ! (fm 𝓛 𝓜 𝓡) k₀ (sizes 𝓤 𝓛 𝓜 𝓡 (compiled.calls-host_heap::heap::block_size 𝓡.env wired)) y₀ (and_then ! (get ! refl) (no_more !)) (λ v.
    use1 𝓛 (later (some (λ (j : ℕ). (‵ ftrue ⊛ ‵ (usize.own_val j (v ∷ []))) ⊛
    some (λ (ls : Lasts sizer.ended tt y₀.0.3). ‵ (lasts sizer.ended tt y₀.0.3 ls) ⊛ raw (fact 𝓤 (IsBlockSize n j))))))
    (id⊢ 𝓤 (k₀.post y₀ v)) $
    await ! tt $ pick ! (λ j. split ! $ move ! (1 ∷ []) $
    pick ! (λ _. split ! $ drop ! $ heard ! (IsBlockSize n j) (λ said. split ! $ drop ! $ fsplit ! $ feq_l ! (λ e. drop ! $
    lands_as ! (ap only e ∙ ap (vint w64) (one_size n j m said is)) refl (tt, record { fits = fits }) $
    sets ! (agg ! (and_then ! (get ! refl) (no_more !))) refl (tt, (tt, tt)) $
    -- self.give(chunk, size)
    let x : (chunk.the_row).Denot = record { ptr = p; size = m } in
    let y : k.Ghost = ((z.0.0, z.0.1, z.0.2, (a.0, (x, (m, tt))), (me ∷ [], (wrap_val p ∷ [], (vint w64 m ∷ [], tt)))), tt) in
    let Due : Type 0 = (m ≡ m) × (16 ≤ m) × (m % 16 ≡ 0) in
    use0 𝓛 (‵ (wrap_own p (wrap_val p ∷ []))) (wrap_made 𝓛 p) $ fjoin ! $
    nothing ! $ flt_i ! m (2 ^ 64) fits $ feq_i ! (List Val) (vint w64 m ∷ []) (vint w64 m ∷ []) refl $ fjoin ! $ fjoin ! $ move ! (1 ∷ 0 ∷ []) $ fjoin ! $
    move ! (1 ∷ []) $ feq_i ! (List Val) (me ∷ []) (me ∷ []) refl $ fjoin ! $ fjoin ! $ move ! (1 ∷ 0 ∷ []) $ join ! $
    use0 𝓛 (raw (fact 𝓤 Due)) (fact_i 𝓤 Due (emp 𝓤) (refl, large, whole)) $ move ! (1 ∷ 0 ∷ []) $ join ! $ use1 𝓛 (raw (k.pre y)) (id⊢ 𝓤 _) $
    calls_at ! (fm 𝓛 𝓜 𝓡) k (gives 𝓤 𝓛 𝓜 𝓡 (compiled.calls-host_heap::heap::HostHeap::give 𝓡.env wired)) y
    (and_then ! (get ! refl) (and_then ! (get ! refl) (and_then ! (get ! refl) (no_more !)))) (λ u.
    use1 𝓛 (later (some (λ (t : Unit {0}). (raw (alive 𝓛 En₀.signature z.0.0 z.0.1) ⊛ ‵ (unit.own_val t (u ∷ []))) ⊛
    some (λ (ls : Lasts callee.ended z.0.0 y.0.3). ‵ (lasts callee.ended z.0.0 y.0.3 ls) ⊛ ‵ ftrue)))) (id⊢ 𝓤 (k.post y u)) $
    await ! tt $ pick ! (λ t. split ! $ move ! (1 ∷ []) $ drop ! $ split ! $ move ! (1 ∷ []) $ feq_l ! (λ e'. lands_as ! (ap only e') refl (tt, tt) $
    sets ! (of_opd ! (unit_lit !)) refl (tt, tt) $
    returns ! (look_at ! 0 refl) $ free_all ! refl $
    feq_i ! (List Val) (vunit ∷ []) (vunit ∷ []) refl $ nothing ! $ nothing ! $ nothing ! $ fjoin ! $ nothing ! $ fjoin ! $ nothing ! $
    fjoin ! $ nothing ! $ fjoin ! $ move ! (3 ∷ 0 ∷ 2 ∷ 1 ∷ []) $
    by ! (leaves 𝓛 En₀ stays c z vunit tt (tt, (tt, (tt, (tt, tt)))) (tt, (tt, (tt, (tt, tt)))))))))))))))))))
