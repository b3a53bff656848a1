-- `allocate` hands out the chunk as room for the type that was asked for, and the way back as the token. Assumes `Logic`.
use Rattle.host_heap.proofs.Steps.{◌≡◌, ℕ, ◌^◌, ◌≤◌, List, [], ◌∷◌, ◌++◌, refl, ap, subst, ◌∙◌, lit<, w64, Ty, Fn, Val, vint, vptr, vcons}
use Rattle.host_heap.proofs.Steps.{vnil, SProp, never, id⊢, froom, Env, WpFn, fact, tables, ‵, raw, ◌⊛◌, some, later, prop, at_ret, ◌$◌}
use Rattle.host_heap.proofs.Steps.{◌∵◌, !, qed, by, move, drop, use0, use1, split, join, pick, regoal, fsplit, fjoin, fpick, feq_l, await}
use Rattle.host_heap.proofs.Steps.{whole, sub, agg, stop, fld, lit, of_opd, no_more, and_then, first, exec, returns, enter, alloc_all}
use Rattle.host_heap.proofs.Steps.{pass_all, free_all, look_at, get, get_in, sets, sets_last, lands_as, env, RattleType, owns, Ptr}
use Rattle.host_heap.proofs.Steps.{block_ptr, in_a_block, types_at, nothing, heard, only, alive, Stays, stay_dropped, walk_of, Goes-dropped}
use Rattle.host_heap.proofs.Steps.{after, proved_at, leaves, slot_at}
use seplogic.Ra.Ura.{Ura}
use Rattle.std.proofs.Common.{true, false, Ok, Err, Some, None, IfSome}
use mir.Val.{of_list}
use prog.Memory.{size, align, capped}
use base.Logic.{ent}
use types.Logic.{Logic}
use types.Kit.{Item, Goal, Seq, Post, any_q, post}
use types.Match.{live, vrt, in_variant}
use types.Run.{switches_on}
use types.ByLocal.{get_tag}
use prog.Wp.{Calls, Loops, Wp, after_seq}
use mir.Syntax.{Body}
use denote.Shadow.{pure_l}
use denote.Triple.Spec.{triple_of}
use denote.Triple.Call.{calls_from}
use denote.Triple.Clauses.{Lasts, lasts}
use Rattle.core.proofs.alloc.Calls.{Answer, answer_val, Answer-Ok, Answer-err}
use Rattle.core.proofs.alloc.Shapes.{head, arm_body}
use Rattle.core.proofs.atomic.Steps.{fm}
use Rattle.core.specs.contracts.option.Option as option
use Rattle.host_heap.proofs.Values.{wrap_val, wrap_own, wrap_value}
use Rattle.host_heap.proofs.Memory.{hands_out}
use Rattle.host_heap.specs.Ownership.{bytes_at, IsBlockSize, block_token}
use Rattle.host_heap.specs.contracts.chunk.Chunk as chunk
use Rattle.host_heap.specs.contracts.heap.HostHeap.take as callee
use Rattle.host_heap.specs.contracts.heap.HostHeap.take.Key as take_key
use Rattle.host_heap.proofs.heap.HostHeap.take.Met.{met as takes}
use Rattle.host_heap.specs.contracts.heap.HostHeapAllocator.allocate.{ended, clauses}
use Rattle.host_heap.specs.contracts.heap.HostHeapAllocator.allocate.Key.{name as #self}
use Rattle.host_heap.proofs.heap.HostHeapAllocator.allocate.Statement.{statement}
use Rattle.host_heap.proofs.heap.HostHeapAllocator.allocate.Code as compiled

abbrev Taken : RattleType
Taken = option.the_row chunk.the_row

abbrev Holds : ℕ → ℕ → Taken.Denot → Type 0
Holds n a x = IfSome x (λ c. IsBlockSize n c.size × (n ≤ 2 ^ 40) × (a ≤ 16))

module _ {M : Type 1} {𝓤 : Ura M} (𝓛 : Logic 𝓤) where
  open 𝓛 use {H}

  abbrev then_runs : Calls 𝓤 H → Loops 𝓤 H → Env 𝓤 H → Body → Post 𝓤 H → Post 𝓤 H
  then_runs C Λ E b q = any_q (after_seq 𝓤 H (Wp 𝓤 H C Λ E b (post 𝓤 H q)) (post 𝓤 H q))

module _ {M : Type 1} {𝓤 : Ura M} {𝓛 : Logic 𝓤} {K : Type 0} {Γ : List (Item 𝓤)} {G : Goal 𝓤 𝓛.H} where
  -- the two cases of what `take` gave
  taken : K → (n a : ℕ) (x : Taken.Denot) (v : Val) → Holds n a x
      → ((b o m : ℕ) → IsBlockSize n m → n ≤ 2 ^ 40 → v ≡ live 1 (vcons (wrap_val (block_ptr b o)) vnil) → Seq K 𝓛 (‵ (bytes_at (block_ptr b o) m) ∷ Γ) G)
      → (v ≡ live 0 vnil → Seq K 𝓛 Γ G) → Seq K 𝓛 (‵ (Taken.own_val x (v ∷ [])) ∷ Γ) G
  taken t n a None v holds one none =
      fpick t (λ us. fsplit t $ feq_l t
      (λ is. fpick t (λ vss. fsplit t $ feq_l t (λ is'. drop t $ none (ap only is ∙ ap (λ (ws : List Val). live 0 (of_list ws)) is')))))
  taken t n a (Some w) v holds one none =
      fpick t (λ us. fsplit t $ feq_l t
      (λ is. fpick t (λ vss. fsplit t $
      feq_l t (λ is'. fsplit t $ move t (1 ∷ []) $ drop t $ fsplit t $ pure_l t (wrap_own w.ptr vss.0) (λ s.
      in_a_block t w.ptr (λ p. bytes_at p w.size) (id⊢ 𝓤 (never 𝓤)) (λ b o at.
      one b o w.size holds.0 holds.1
      (ap only is ∙ ap (λ (xs : List Val). live 1 (of_list xs)) (is' ∙ ap (λ (xs : List Val). xs ++ []) (wrap_value w.ptr vss.0 s)) ∙
      (λ i. live 1 (vcons (wrap_val (at i)) vnil)))))))))

pub allocate_spec : {M : Type 1} → statement M
allocate_spec 𝓤 𝓛 𝓜 𝓡 wired =
    let H = 𝓛.H in let En₀ = ended in let c = clauses 𝓛 𝓜.mem 𝓡.returns in let fn : Fn = compiled.function in
    let stays : Stays En₀.signature.params En₀.kept = (
      stay_dropped (slot_at 0 En₀.signature.params) En₀.kept.0,
      (stay_dropped (slot_at 1 En₀.signature.params) En₀.kept.1.0, (stay_dropped (slot_at 2 En₀.signature.params) En₀.kept.1.1.0, tt)),
    ) in
    let C = (tables 𝓤 H 𝓜 𝓡 𝓡.env).C in let Λ = (tables 𝓤 H 𝓜 𝓡 𝓡.env).Λ in
    proved_at 𝓛 En₀ stays c 𝓜 𝓡 (
      Goes-dropped 𝓛 1 (slot_at 0 En₀.signature.params) En₀.kept.0 (λ κs x f. refl),
      (
        Goes-dropped 𝓛 1 (slot_at 1 En₀.signature.params) En₀.kept.1.0 (λ κs x f. refl),
        (Goes-dropped 𝓛 1 (slot_at 2 En₀.signature.params) En₀.kept.1.1.0 (λ κs x f. refl), tt),
      ),
    ) #self fn (compiled.unfolded 𝓤 H 𝓜 𝓡 wired)
    (λ z are.
    let Post : Val → SProp 𝓤 = (walk_of 𝓛 En₀ stays c).post z in let a = z.0.3 in let vss = z.0.4 in
    let τ : Ty = z.1 in let n = a.1.0 in let al = a.1.1.0 in
    let k = triple_of 𝓛 callee.signature (callee.spec 𝓛 𝓜.mem 𝓡.returns) in
    let vs : List Val = vptr a.0.ref_ptr.0 a.0.ref_ptr.1 ∷ vint w64 n ∷ vint w64 al ∷ [] in
    let y : k.Ghost = ((z.0.0, z.0.1, z.0.2, a, vss), tt) in
    let holds : k.args y ≡ vs = λ i. are.0.0 i ++ (are.1.0.0 i ++ (are.1.1.0.0 i ++ [])) in
    let Asked : Type 0 = (capped (size τ) ≡ n) × (capped (align τ) ≡ al) in
    qed 𝓛 ((raw (alive 𝓛 En₀.signature z.0.0 z.0.1) ⊛ ‵ (owns (types_at En₀.signature.params z.0.0) a vss)) ∷ raw (fact 𝓤 Asked) ∷ []) ∵
    move ! (1 ∷ []) $ heard ! Asked (λ asked. split ! $ move ! (1 ∷ []) $
    move ! (1 ∷ 0 ∷ []) $ join ! $ nothing ! $ move ! (1 ∷ 0 ∷ []) $ join ! $ use1 𝓛 (raw (k.pre y)) (id⊢ 𝓤 _) $
    regoal ! (λ (us : List Val). prop (WpFn 𝓤 H C Λ fn us Post)) holds refl $
    enter ! C Λ fn vs Post $
    alloc_all ! (λ l. pass_all ! refl ((tt, tt), ((tt, record { fits = are.1.0.1 }), ((tt, record { fits = are.1.1.0.1 }), tt))) $
    let En : Env 𝓤 𝓛.H = env fn.locals l in
    calls_from ! (fm 𝓛 𝓜 𝓡) (raw (k.pre y)) vs (k.post y)
    (subst (λ (us : List Val). ent 𝓤 (k.pre y) (C take_key.name us (k.post y))) holds
    (takes 𝓤 𝓛 𝓜 𝓡 (compiled.calls-host_heap::heap::HostHeap::take 𝓡.env wired) y))
    (and_then ! (get ! refl) (and_then ! (get ! refl) (and_then ! (get ! refl) (no_more !)))) (λ v.
    use1 𝓛 (later (some (λ (x : Taken.Denot). (raw (alive 𝓛 En₀.signature z.0.0 z.0.1) ⊛ ‵ (Taken.own_val x (v ∷ []))) ⊛
    some (λ (ls : Lasts callee.ended z.0.0 a). ‵ (lasts callee.ended z.0.0 a ls) ⊛ raw (fact 𝓤 (Holds n al x)))))) (id⊢ 𝓤 (k.post y v)) $
    await ! tt $ pick ! (λ x. split ! $ move ! (1 ∷ []) $ pick ! (λ _. split ! $ drop ! $ heard ! (Holds n al x) (λ said. split ! $ move ! (1 ∷ []) $
    taken ! n al x v said
    (λ b o m block small e. let p : Ptr = block_ptr b o in
    use1 𝓛 (‵ (froom τ b o) ⊛ ‵ (block_token τ p)) (hands_out 𝓛 b τ o n m asked.0 block small) $
    lands_as ! e refl (tt, (record { fits = lit< tt }, ((tt, tt), tt))) $
    first ! $ switches_on ! (get_tag ! (vrt ! refl (fld ! refl (stop !))) (whole !)) $
    exec ! C Λ En (arm_body 0 (head (after 1 fn.body))) (then_runs 𝓛 C Λ En (after 2 fn.body) (at_ret En Post)) $
    sets ! (of_opd ! (get_in ! (vrt ! refl (fld ! refl (fld ! refl (stop !)))) (sub ! 0 refl (in_variant ! 1 0 refl refl (whole !))))) refl (tt, tt) $
    sets_last ! (agg ! (and_then ! (lit ! tt) (and_then ! (get ! refl) (no_more !)))) refl (tt, (record { fits = lit< tt }, (tt, tt))) $
    exec ! C Λ En (after 2 fn.body) (at_ret En Post) $
    sets ! (of_opd ! (get ! refl)) refl (tt, (record { fits = lit< tt }, (tt, tt))) $
    returns ! (look_at ! 0 refl) $ free_all ! refl $
    use0 𝓛 (‵ (Answer.own_val (Ok p) (answer_val true b o ∷ []))) (Answer-Ok 𝓛 b o) $ nothing ! $ nothing ! $ fjoin ! $ nothing ! $
    fjoin ! $ nothing ! $ fjoin ! $ move ! (3 ∷ 0 ∷ 1 ∷ 2 ∷ []) $
    by ! (leaves 𝓛 En₀ stays c z (answer_val true b o) (Ok p) (tt, (tt, (tt, tt))) (tt, (tt, (tt, tt)))))
    (λ e. nothing ! $ lands_as ! e refl (tt, (record { fits = lit< tt }, tt)) $
    first ! $ switches_on ! (get_tag ! (vrt ! refl (fld ! refl (stop !))) (whole !)) $
    exec ! C Λ En (arm_body 1 (head (after 1 fn.body))) (then_runs 𝓛 C Λ En (after 2 fn.body) (at_ret En Post)) $
    sets ! (agg ! (no_more !)) refl (tt, tt) $
    sets_last ! (agg ! (and_then ! (lit ! tt) (and_then ! (get ! refl) (no_more !)))) refl (tt, (record { fits = lit< tt }, (tt, tt))) $
    exec ! C Λ En (after 2 fn.body) (at_ret En Post) $
    sets ! (of_opd ! (get ! refl)) refl (tt, (record { fits = lit< tt }, (tt, tt))) $
    returns ! (look_at ! 0 refl) $ free_all ! refl $
    use0 𝓛 (‵ (Answer.own_val (Err (record {})) (answer_val false 0 0 ∷ []))) (Answer-err 𝓛) $ nothing ! $ nothing ! $ fjoin ! $
    nothing ! $ fjoin ! $ nothing ! $ fjoin ! $ move ! (3 ∷ 0 ∷ 1 ∷ 2 ∷ []) $
    by ! (leaves 𝓛 En₀ stays c z (answer_val false 0 0) (Err (record {})) (tt, (tt, (tt, tt))) (tt, (tt, (tt, tt))))))))))))
