-- `split` moves a pointer, and cuts the room. Assumes `Logic`.
use Rattle.host_heap.proofs.Steps.{◌≡◌, ◌+◌, ◌-◌, ◌%◌, ◌≤◌, List, [], ◌∷◌, ◌++◌, refl, ap, ◌∙◌, arith, w64, Fn, Val, vint, vptr, SProp, emp}
use Rattle.host_heap.proofs.Steps.{never, id⊢, Env, WpFn, fact, fact_i, tables, ‵, raw, ◌⊛◌, prop, at_ret, ◌$◌, ◌∵◌, !, qed, by, move, drop}
use Rattle.host_heap.proofs.Steps.{use0, use1, use2, split, regoal, fsplit, fjoin, whole, sub, agg, stop, fld, bin, of_opd, no_more}
use Rattle.host_heap.proofs.Steps.{and_then, first, blocks, exec, returns, enter, alloc_all, pass_all, free_all, look_at, get, get_in, sets}
use Rattle.host_heap.proofs.Steps.{sets_last, is, env, owns, Ptr, block_ptr, in_a_block, types_at, nothing, heard, Tuple, alive, Stays}
use Rattle.host_heap.proofs.Steps.{stay_dropped, walk_of, Goes-dropped, Goes-blank, after, pair_of, pair_val, proved_at, leaves, slot_at}
use Rattle.host_heap.proofs.Values.{wrap_val, wrap_own, wrap_value, wrap_made}
use Rattle.host_heap.proofs.Memory.{cuts}
use Rattle.host_heap.specs.Ownership.{bytes_at}
use Rattle.host_heap.specs.contracts.chunk.Chunk as chunk
use Rattle.host_heap.specs.contracts.chunk.Chunk.split.{ended, clauses}
use Rattle.host_heap.specs.contracts.chunk.Chunk.split.Key.{name as #self}
use Rattle.host_heap.proofs.chunk.Chunk.split.Statement.{statement}
use Rattle.host_heap.proofs.chunk.Chunk.split.Code as compiled

pub split_spec : {M : Type 1} → statement M
split_spec 𝓤 𝓛 𝓜 𝓡 wired =
    let H = 𝓛.H in let En₀ = ended in let c = clauses 𝓛 𝓜.mem 𝓡.returns in let fn : Fn = compiled.function in
    let stays : Stays En₀.signature.params En₀.kept =
    (stay_dropped (slot_at 0 En₀.signature.params) En₀.kept.0, (stay_dropped (slot_at 1 En₀.signature.params) En₀.kept.1.0, tt)) in
    let C = (tables 𝓤 H 𝓜 𝓡 𝓡.env).C in let Λ = (tables 𝓤 H 𝓜 𝓡 𝓡.env).Λ in
    proved_at 𝓛 En₀ stays c 𝓜 𝓡 (
      Goes-blank 𝓛 0 (slot_at 0 En₀.signature.params) En₀.kept.0 (λ κs x f. tt),
      (Goes-dropped 𝓛 0 (slot_at 1 En₀.signature.params) En₀.kept.1.0 (λ κs x f. refl), tt),
    ) #self fn (compiled.unfolded 𝓤 H 𝓜 𝓡 wired)
    (λ z are.
    let Post : Val → SProp 𝓤 = (walk_of 𝓛 En₀ stays c).post z in let a = z.0.3 in let vss = z.0.4 in
    let x = a.0 in let n = a.1.0 in let fits = are.1.0.1 in let left = x.size - n in
    let Asked : Type 0 = (n % 16 ≡ 0) × (n ≤ x.size) in let Holds : Type 0 = (n ≡ n) × (left ≡ left) in
    qed 𝓛 ((raw (alive 𝓛 En₀.signature z.0.0 z.0.1) ⊛ ‵ (owns (types_at En₀.signature.params z.0.0) a vss)) ∷ raw (fact 𝓤 Asked) ∷ []) ∵
    move ! (1 ∷ []) $ heard ! Asked (λ asked. split ! $ move ! (1 ∷ []) $
    fsplit ! $ fsplit ! $ drop ! $ move ! (1 ∷ []) $ drop ! $ in_a_block ! x.ptr (λ p. bytes_at p x.size) (id⊢ 𝓤 (never 𝓤)) (λ b o at.
    let start : Ptr = block_ptr b o in let back : Ptr = block_ptr b (o + n) in
    use1 𝓛 (‵ (bytes_at start n) ⊛ ‵ (bytes_at back left)) (cuts 𝓛 b o n x.size asked.0 asked.1) $ split ! $
    regoal ! (λ (us : List Val). prop (WpFn 𝓤 H C Λ fn us Post))
    (λ i. (wrap_value x.ptr vss.0 are.0.0 ∙ ap (λ (p : Ptr). wrap_val p ∷ []) at) i ++ (are.1.0.0 i ++ [])) refl $
    enter ! C Λ fn (wrap_val start ∷ vint w64 n ∷ []) Post $
    alloc_all ! (λ l. pass_all ! refl ((tt, (tt, tt)), ((tt, record { fits = fits }), tt)) $ let En : Env 𝓤 𝓛.H = env fn.locals l in
    sets ! (of_opd ! (get_in ! (fld ! refl (stop !)) (sub ! 0 refl (whole !)))) refl (tt, tt) $
    first ! $ blocks ! $
    sets_last ! (is ! (bin ! (get ! refl) (get ! refl) tt) (ap (vptr b) (omega arith))) refl (tt, tt) $
    exec ! C Λ En (after 2 fn.body) (at_ret En Post) $
    sets ! (of_opd ! (get ! refl)) refl (tt, tt) $
    sets ! (agg ! (and_then ! (get ! refl) (no_more !))) refl (tt, (tt, tt)) $
    sets ! (agg ! (and_then ! (get ! refl) (no_more !))) refl (tt, (tt, tt)) $
    sets ! (agg ! (and_then ! (get ! refl) (and_then ! (get ! refl) (no_more !)))) refl (tt, ((tt, tt), ((tt, tt), tt))) $
    returns ! (look_at ! 0 refl) $ free_all ! refl $
    let y : (chunk.the_row).Denot = record { ptr = start; size = n } in let w : (chunk.the_row).Denot = record { ptr = back; size = left } in
    use0 𝓛 (‵ (wrap_own start (wrap_val start ∷ []))) (wrap_made 𝓛 start) $ fjoin ! $ move ! (1 ∷ []) $
    use0 𝓛 (‵ (wrap_own back (wrap_val back ∷ []))) (wrap_made 𝓛 back) $ fjoin ! $ move ! (1 ∷ 0 ∷ []) $
    use2 𝓛 (‵ ((Tuple (chunk.the_row ∷ chunk.the_row ∷ [])).own_val (y, w) (pair_val (wrap_val start) (wrap_val back) ∷ [])))
    (pair_of 𝓛 chunk.the_row chunk.the_row y w (wrap_val start) (wrap_val back)) $
    use0 𝓛 (raw (fact 𝓤 Holds)) (fact_i 𝓤 Holds (emp 𝓤) (refl, refl)) $ nothing ! $ nothing ! $ fjoin ! $ nothing ! $ fjoin ! $ move ! (3 ∷ 0 ∷ 2 ∷ 1 ∷ []) $
    by ! (leaves 𝓛 En₀ stays c z (pair_val (wrap_val start) (wrap_val back)) (y, w) (tt, (tt, tt)) (tt, (tt, tt)))))))
