-- It gives the block back to the inner allocator. Assumes `Logic`.
use Rattle.std.proofs.Common.{◌≡◌, [], ◌∷◌, refl, w64}
use Rattle.std.proofs.raw_atomic.Walks.{proved}
use mir.Syntax.{Fn}
use mir.Val.{vunit, vint, vptr}
use base.Logic.{fst∗, never}
use base.Fml.{ftrue, flft}
use prog.Memory.{size, align, capped}
use prog.Wp.{WpFn}
use contract.BorrowLft.{◌⊑◌, ⊑_trans}
use contract.Monad.{fact}
use contract.Running.{tables}
use types.Logic.{sem}
use types.Kit.{‵, raw, ◌⊛◌, later, given, prop, ◌$◌, ◌∵◌, !, qed, done, move, keep, use1, split, join, fsplit, feq_i, learn, await, regoal, suffices, group}
use types.Run.{enter, of_opd, unit_lit, addr, stop, fld, no_more, and_then, returns}
use types.ByLocal.{alloc_all, pass_all, free_all, look_at, get, through, sets, lands_as}
use denote.Builtin.{usize, RawPtr}
use denote.Exit.{yes}
use denote.Memory.{hidden_shr}
use denote.Plain.{uint_vals, uint_Tells}
use denote.RawPtr.{Ptr, block_ptr, null_ptr, ptr_val, in_a_block, rawptr_vals, rawptr_Tells}
use denote.RattleType.{owns}
use denote.Ref.{shr_vals}
use denote.Signature.{plain, type_at}
use denote.Steps.{heard, nothing}
use denote.Triple.Call.{calls_at}
use denote.Triple.Clauses.{Ended}
use denote.Triple.Table.{framed}
use denote.Triple.Walked.{Stays, stay_dropped, walk_of, ends_at, Goes-dropped}
use Rattle.std.specs.Allocator.{owned_block}
use Rattle.std.proofs.alloc.Calls.{Al, seen, token, Gives, at_gives, Gives-goes, Gives-Gives}
use Rattle.test_support.proofs.Fields.{Allowance, lent, at_types, instance, inner_at, allowance_at, fields}
use Rattle.test_support.specs.contracts.failing_alloc.FailingAllocAllocator.deallocate as f
use Rattle.test_support.specs.contracts.failing_alloc.FailingAllocAllocator.deallocate.Key as key
use Rattle.test_support.proofs.failing_alloc.FailingAllocAllocator.deallocate.Statement.{statement}
use Rattle.test_support.proofs.failing_alloc.FailingAllocAllocator.deallocate.Code as code

module _ (Z : Al) where
  abbrev ended : Ended
  ended = f.ended Z.row Z.g Z.d Z.drops

  abbrev stayed : Stays ended.signature.params ended.kept
  stayed = (
    stay_dropped (lent Z) yes,
    (stay_dropped (plain (λ _. RawPtr)) yes, (stay_dropped (plain (λ _. usize)) yes, (stay_dropped (plain (λ _. usize)) yes, tt))),
  )

pub deallocate_spec : {M : Type 1} → statement M
deallocate_spec 𝓤 𝓛 𝓜 𝓡 wired Y laws g d drops bound _ =
    let Z : Al = record { row = Y; laws = laws; g = g; d = d; drops = drops } in
    let T = ended Z in let hs = stayed Z in let here : Fn = instance Z code.function in
    let c = f.clauses Y g d drops 𝓛 𝓜.mem 𝓡.returns in
    let W = walk_of 𝓛 T hs c in let 𝓣 = tables 𝓤 𝓛.H 𝓜 𝓡 𝓡.env in
    let goes = Goes-dropped 𝓛 2 (plain (λ _. usize)) yes (λ κs x w. refl) in
    proved 𝓛 T hs c 𝓜 𝓡 (Goes-dropped 𝓛 2 (lent Z) yes (λ κs x w. refl), (Goes-dropped 𝓛 2 (plain (λ _. RawPtr)) yes (λ κs x w. refl), (goes, (goes, tt))))
    (key.name (at_types Z)) here (code.unfolded 𝓤 𝓛.H 𝓜 𝓡 wired (Y, tt) d drops)
    (λ κs. (shr_vals, (rawptr_vals, (uint_vals w64, (uint_vals w64, tt)))))
    (λ κs. ((λ r vs s. s.0), (rawptr_Tells, (uint_Tells w64, (uint_Tells w64, tt))))) (λ κs qs bounds a τ are.
    let κ₁ = κs.0 in let κ₂ = κs.1.0 in let q₁ = qs.0 in let q₂ = qs.1.0 in
    let r = a.0 in let n = a.1.1.0 in let m = a.1.1.1.0 in
    let y : Ptr → W.Ghost = λ p. ((κs, qs, bounds, (r, (p, a.1.1)), (shr_vals r, (rawptr_vals p, (uint_vals w64 n, (uint_vals w64 m, tt))))), τ) in
    let Layout : Type 0 = (capped (size τ) ≡ n) × (capped (align τ) ≡ m) in
    let n_fits = are.1.1.0.1 in let m_fits = are.1.1.1.0.1 in
    let h = r.now.inner in let at_inner = inner_at Z r.ref_ptr in let at_allowance = allowance_at Z r.ref_ptr in
    qed 𝓛 (((‵ (flft κ₁ q₁) ⊛ ‵ (flft κ₂ q₂) ⊛ ‵ ftrue) ⊛ ‵ ((type_at (lent Z) κs).own_val r (shr_vals r)) ⊛ raw
    (sem 𝓛 (owns (RawPtr ∷ usize ∷ usize ∷ []) a.1 (y a.1.0).0.4.1)))
    ∷ (raw (fact 𝓤 (κ₂ ⊑ Y.lives)) ⊛ raw (fact 𝓤 Layout) ⊛ ‵ (owned_block (token Z h) τ a.1.0)) ∷ []) ∵
    move ! (1 ∷ []) $ split ! $ heard ! _ (λ lives. split ! $ heard ! _ (λ layout. move ! (1 ∷ []) $ split ! $ split ! $ move ! (2 ∷ []) $ split ! $
    use1 𝓛 (‵ (seen Z κ₁ at_inner h) ⊛ ‵ (hidden_shr Allowance κ₁ r.now.allowance at_allowance.0 at_allowance.1))
    (fields Z 𝓛 κ₁ κ₂ r) $ split ! $ keep ! (5 ∷ 0 ∷ 3 ∷ 4 ∷ []) $
    -- [the block with the right to free it; the `&` to the inner allocator; the tokens of κ₁ and of κ₂]
    in_a_block ! a.1.0 (λ p. owned_block (token Z h) τ p) (fst∗ 𝓤 (never 𝓤) (sem 𝓛 (token Z h τ null_ptr))) (λ b o e.
    regoal ! (λ p. prop (WpFn 𝓤 𝓛.H 𝓣.C 𝓣.Λ here (vptr r.ref_ptr.0 r.ref_ptr.1 ∷ ptr_val p ∷ vint w64 n ∷ vint w64 m ∷ []) (W.post (y p)))) e refl $
    enter ! _ _ _ _ _ $ alloc_all ! (λ l. pass_all ! refl ((tt, tt), ((tt, tt), ((tt, record { fits = n_fits }), ((tt, record { fits = m_fits }), tt)))) $
    sets ! (addr ! (through ! refl (fld ! refl (stop !)))) refl (tt, tt) $
    let G = Gives Z 𝓛 𝓜.mem 𝓡.returns in let z = at_gives Z 𝓛 𝓜.mem 𝓡.returns κ₁ q₁ at_inner h b o n m τ in
    fsplit ! $ group ! 4 $ use1 𝓛 (raw (G.pre z))
    (Gives-goes Z 𝓛 𝓜.mem 𝓡.returns κ₁ q₁ at_inner h (⊑_trans κ₁ κ₂ Y.lives bounds.0 lives) b o n m τ layout.0 layout.1 n_fits m_fits) $
    calls_at ! (framed 𝓤 𝓛.H 𝓜 𝓣) G (bound.deallocate drops) z
    (and_then ! (get ! refl) (and_then ! (get ! refl) (and_then ! (get ! refl) (and_then ! (get ! refl) (no_more !))))) (λ v.
    use1 𝓛 (later (given (v ≡ vunit) (‵ (flft κ₁ q₁)))) (Gives-Gives Z 𝓛 𝓜.mem 𝓡.returns κ₁ q₁ at_inner h b o n m τ v) $ await ! tt $ learn ! (λ is.
    lands_as ! is refl (tt, tt) $
    sets ! (of_opd ! (unit_lit !)) refl (tt, tt) $
    returns ! (look_at ! 0 refl) $ free_all ! refl $
    suffices ! _ (ends_at 𝓛 T hs c (y (block_ptr b o)) vunit tt (tt, (tt, (tt, (tt, tt)))) (tt, (tt, (tt, (tt, tt))))) $
    nothing ! $ feq_i ! _ (vunit ∷ []) _ refl $ nothing ! $ nothing ! $ join ! $ nothing ! $ join ! $ nothing ! $ join ! $ nothing ! $ join ! $
    move ! (3 ∷ 4 ∷ []) $ join ! $ group ! 3 $ done !)))))))
