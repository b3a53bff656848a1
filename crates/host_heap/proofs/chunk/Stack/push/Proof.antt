-- `push` writes the old top into the chunk, which is the new one. Assumes `Logic`.
use Rattle.host_heap.proofs.Steps.{◌≡◌, suc, ◌+◌, ◌%◌, ◌<◌, ◌≤◌, List, [], ◌∷◌, ◌++◌, refl, ap, ◌∙◌, arith, ty_ptr, Fn, Val, SProp, emp}
use Rattle.host_heap.proofs.Steps.{never, id⊢, fsep, fwand, fat, froom, full_share, Env, WpFn, fact, fact_i, tables, ‵, raw, ◌⊛◌, prop}
use Rattle.host_heap.proofs.Steps.{at_ret, ◌$◌, ◌∵◌, !, qed, by, move, drop, use0, use1, split, regoal, fsplit, fjoin, fpack, whole, sub}
use Rattle.host_heap.proofs.Steps.{agg, stop, fld, init, of_opd, no_more, and_then, assigns_last, first, blocks, exec, returns, enter}
use Rattle.host_heap.proofs.Steps.{alloc_all, pass_all, free_all, look_at, get, get_in, through, sets, env, owns, Ptr, block_ptr, ptr_val}
use Rattle.host_heap.proofs.Steps.{in_a_block, types_at, nothing, heard, alive, Stays, stay_dropped, walk_of, Goes-blank, after, and_tt}
use Rattle.host_heap.proofs.Steps.{proved_at, leaves, slot_at}
use Rattle.host_heap.proofs.Values.{ptr_typed, wrap_val, wrap_own, wrap_value, wrap_made}
use Rattle.host_heap.proofs.Memory.{retypes, restacked}
use Rattle.host_heap.specs.Ownership.{units_of, bytes_at, Link, linked, stacked}
use Rattle.host_heap.specs.contracts.chunk.Stack as stack
use Rattle.host_heap.specs.contracts.chunk.Stack.push.{ended, clauses}
use Rattle.host_heap.specs.contracts.chunk.Stack.push.Key.{name as #self}
use Rattle.host_heap.proofs.chunk.Stack.push.Statement.{statement}
use Rattle.host_heap.proofs.chunk.Stack.push.Code as compiled

pub push_spec : {M : Type 1} → statement M
push_spec 𝓤 𝓛 𝓜 𝓡 wired =
    let H = 𝓛.H in let En₀ = ended in let c = clauses 𝓛 𝓜.mem 𝓡.returns in let fn : Fn = compiled.function in
    let stays : Stays En₀.signature.params En₀.kept =
    (stay_dropped (slot_at 0 En₀.signature.params) En₀.kept.0, (stay_dropped (slot_at 1 En₀.signature.params) En₀.kept.1.0, tt)) in
    let C = (tables 𝓤 H 𝓜 𝓡 𝓡.env).C in let Λ = (tables 𝓤 H 𝓜 𝓡 𝓡.env).Λ in
    proved_at 𝓛 En₀ stays c 𝓜 𝓡 (
      Goes-blank 𝓛 0 (slot_at 0 En₀.signature.params) En₀.kept.0 (λ κs x f. tt),
      (Goes-blank 𝓛 0 (slot_at 1 En₀.signature.params) En₀.kept.1.0 (λ κs x f. tt), tt),
    ) #self fn (compiled.unfolded 𝓤 H 𝓜 𝓡 wired)
    (λ z are.
    let Post : Val → SProp 𝓤 = (walk_of 𝓛 En₀ stays c).post z in let a = z.0.3 in let vss = z.0.4 in
    let s = a.0 in let x = a.1.0 in let n = x.size in let top = s.top in
    let Asked : Type 0 = (16 ≤ n) × (n % 16 ≡ 0) × (0 < s.count → n ≡ s.size) in
    qed 𝓛 ((raw (alive 𝓛 En₀.signature z.0.0 z.0.1) ⊛ ‵ (owns (types_at En₀.signature.params z.0.0) a vss)) ∷ raw (fact 𝓤 Asked) ∷ []) ∵
    move ! (1 ∷ []) $ heard ! Asked (λ asked. split ! $ move ! (1 ∷ []) $
    fsplit ! $ fsplit ! $ drop ! $ move ! (1 ∷ []) $ fsplit ! $ fsplit ! $ drop ! $ move ! (1 ∷ []) $ drop ! $
    -- [the chunk; the stack; the tokens]
    in_a_block ! x.ptr (λ p. bytes_at p n) (id⊢ 𝓤 (never 𝓤)) (λ b o at. let start : Ptr = block_ptr b o in
    use1 𝓛 (‵ (froom ty_ptr b o) ⊛ ‵ (fwand (froom ty_ptr b o) (froom (units_of n) b o)))
    (retypes 𝓛 b ty_ptr o n asked.1 (omega (arith, asked.0)) tt) $ split ! $
    regoal ! (λ (us : List Val). prop (WpFn 𝓤 H C Λ fn us Post))
    (λ i. wrap_value top vss.0 are.0.0 i ++ ((wrap_value x.ptr vss.1.0 are.1.0.0 ∙ ap (λ (p : Ptr). wrap_val p ∷ []) at) i ++ [])) refl $
    enter ! C Λ fn (wrap_val top ∷ wrap_val start ∷ []) Post $
    alloc_all ! (λ l. pass_all ! refl ((and_tt _ ((ptr_typed top).0), ((ptr_typed top).1, tt)), ((tt, (tt, tt)), tt)) $ let En : Env 𝓤 𝓛.H = env fn.locals l in
    sets ! (of_opd ! (get_in ! (fld ! refl (stop !)) (sub ! 0 refl (whole !)))) refl (ptr_typed top) $
    sets ! (of_opd ! (get_in ! (fld ! refl (stop !)) (sub ! 0 refl (whole !)))) refl (tt, tt) $
    first ! $ blocks ! $
    sets ! (of_opd ! (get ! refl)) refl (tt, tt) $
    assigns_last ! (of_opd ! (get ! refl)) (through ! refl (stop !)) (init ! 0 refl (ptr_typed top)) $
    exec ! C Λ En (after 3 fn.body) (at_ret En Post) $
    sets ! (agg ! (and_then ! (get ! refl) (no_more !))) refl (tt, (tt, tt)) $
    returns ! (look_at ! 0 refl) $ free_all ! refl $
    -- [the address in the chunk; the way back; the stack; the tokens]
    let k : Link = record { block = b; start = o; next = top } in
    let y : (stack.the_row).Denot = record { top = start; size = n; count = suc s.count } in let Holds : Type 0 = (n ≡ n) × (suc s.count ≡ s.count + 1) in
    fjoin ! $ fpack ! (start ≡ block_ptr b o) (λ _. fsep (fat full_share ty_ptr b o (ptr_val top)) (fwand (froom ty_ptr b o) (froom (units_of n) b o))) refl $
    move ! (1 ∷ []) $ use1 𝓛 (‵ (stacked n s.count top)) (restacked 𝓛 s.count s.size n top asked.2) $ move ! (1 ∷ 0 ∷ []) $ fjoin ! $
    fpack ! Link (λ j. fsep (linked n start j) (stacked n s.count j.next)) k $
    use0 𝓛 (‵ (wrap_own start (wrap_val start ∷ []))) (wrap_made 𝓛 start) $ fjoin ! $
    use0 𝓛 (raw (fact 𝓤 Holds)) (fact_i 𝓤 Holds (emp 𝓤) (refl, omega arith)) $ nothing ! $ nothing ! $ fjoin ! $ nothing ! $ fjoin ! $
    move ! (3 ∷ 0 ∷ 2 ∷ 1 ∷ []) $
    by ! (leaves 𝓛 En₀ stays c z (wrap_val start) y (tt, (tt, tt)) (tt, (tt, tt)))))))
