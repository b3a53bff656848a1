-- Where no block is left it returns `Err`; otherwise it returns what the inner allocator returns. Assumes
-- `Logic`.
use Rattle.std.proofs.Common.{◌≡◌, Bool, true, false, List, [], ◌∷◌, Ok, Err, refl, w64}
use Rattle.std.proofs.raw_atomic.Walks.{proved}
use mir.Syntax.{Fn}
use mir.Val.{Val, vbool}
use base.Logic.{ent, emp}
use base.Fml.{ftrue, flft}
use prog.Memory.{size, align, capped}
use contract.BorrowLft.{◌⊑◌, ⊑_trans}
use contract.Monad.{fact}
use contract.Running.{tables}
use types.Logic.{sem}
use types.Kit.{group, Item, ‵, raw, ◌⊛◌, some, later, given, prop, at_ret, Sq, ◌$◌, ◌∵◌, !, qed, done, move, keep, drop, use0, use1, use2, split, join}
use types.Kit.{fjoin, learn, pick, await, suffices}
use types.Part.{agg}
use types.Run.{enter, lit, un, addr, stop, fld, no_more, and_then, first, branches, skips, exec, returns, returns_within}
use types.ByLocal.{alloc_all, pass_all, free_all, look_at, get, through, sets, lands_as, env}
use denote.Builtin.{usize}
use denote.Exit.{yes}
use denote.Plain.{uint_vals, uint_Tells}
use denote.Memory.{hidden_shr}
use denote.RattleType.{owns}
use denote.RawPtr.{block_ptr}
use denote.Ref.{shr_vals}
use denote.Signature.{plain, type_at}
use denote.Steps.{heard, nothing}
use denote.Triple.Call.{calls_at}
use denote.Triple.Clauses.{Ended}
use denote.Triple.Table.{framed}
use denote.Triple.Walked.{Stays, stay_dropped, walk_of, ends_at, Goes-dropped}
use Rattle.std.proofs.VecSteps.Shapes.{after}
use Rattle.std.specs.Allocator.{block_if_ok}
use Rattle.std.proofs.alloc.Calls.{Al, seen, Answer, Answer-typed, Answer-Ok, Answer-err, Takes, at_takes, Answered, Takes-goes, Takes-gives, answers}
use Rattle.test_support.proofs.Fields.{Allowance, lent, at_types, instance, inner_at, allowance_at, fields, Spend, spends, spend_goes, spend_gives}
use Rattle.test_support.proofs.allowance.Allowance.spend.Met.{met as spend_met}
use Rattle.test_support.specs.contracts.failing_alloc.FailingAllocAllocator.allocate as f
use Rattle.test_support.specs.contracts.failing_alloc.FailingAllocAllocator.allocate.Key as key
use Rattle.test_support.proofs.failing_alloc.FailingAllocAllocator.allocate.Statement.{statement}
use Rattle.test_support.proofs.failing_alloc.FailingAllocAllocator.allocate.Code as code

module _ (Z : Al) where
  abbrev ended : Ended
  ended = f.ended Z.row Z.g Z.d Z.drops

  abbrev stayed : Stays ended.signature.params ended.kept
  stayed = (stay_dropped (lent Z) yes, (stay_dropped (plain (λ _. usize)) yes, (stay_dropped (plain (λ _. usize)) yes, tt)))

pub allocate_spec : {M : Type 1} → statement M
allocate_spec 𝓤 𝓛 𝓜 𝓡 wired Y laws g d drops bound _ =
    let Z : Al = record { row = Y; laws = laws; g = g; d = d; drops = drops } in
    let T = ended Z in let hs = stayed Z in let here : Fn = instance Z code.function in
    let c = f.clauses Y g d drops 𝓛 𝓜.mem 𝓡.returns in
    let W = walk_of 𝓛 T hs c in let 𝓣 = tables 𝓤 𝓛.H 𝓜 𝓡 𝓡.env in
    let fm = framed 𝓤 𝓛.H 𝓜 𝓣 in
    let goes = Goes-dropped 𝓛 2 (plain (λ _. usize)) yes (λ κs x w. refl) in
    proved 𝓛 T hs c 𝓜 𝓡 (Goes-dropped 𝓛 2 (lent Z) yes (λ κs x w. refl), (goes, (goes, tt)))
    (key.name (at_types Z)) here (code.unfolded 𝓤 𝓛.H 𝓜 𝓡 wired (Y, tt) d drops)
    (λ κs. (shr_vals, (uint_vals w64, (uint_vals w64, tt)))) (λ κs. ((λ r vs s. s.0), (uint_Tells w64, (uint_Tells w64, tt)))) (λ κs qs bounds a τ are.
    let κ₁ = κs.0 in let κ₂ = κs.1.0 in let q₁ = qs.0 in let q₂ = qs.1.0 in
    let r = a.0 in let n = a.1.0 in let m = a.1.1.0 in
    let y : W.Ghost = ((κs, qs, bounds, a, (shr_vals r, (uint_vals w64 n, (uint_vals w64 m, tt)))), τ) in
    let Layout : Type 0 = (capped (size τ) ≡ n) × (capped (align τ) ≡ m) in
    let n_fits = are.1.0.1 in let m_fits = are.1.1.0.1 in
    let h = r.now.inner in let at_inner = inner_at Z r.ref_ptr in let at_allowance = allowance_at Z r.ref_ptr in
    let Tokens : List (Item 𝓤) = ‵ (flft κ₁ q₁) ∷ (‵ (flft κ₂ q₂) ⊛ ‵ ftrue) ∷ [] in
    let out : (w : Answer.Denot) (v : Val) → ent 𝓤 (emp 𝓤) (sem 𝓛 (Answer.own_val w (v ∷ [])))
    → Sq 𝓛 (‵ (block_if_ok (g.dealloc_token h) τ w) ∷ Tokens) (prop (W.post y v)) = λ w v made.
    suffices ! _ (ends_at 𝓛 T hs c y v w (tt, (tt, (tt, tt))) (tt, (tt, (tt, tt)))) $ use0 𝓛 (‵ (Answer.own_val w (v ∷ []))) made $
    move ! (2 ∷ 3 ∷ []) $ join ! $ nothing ! $ nothing ! $ join ! $ nothing ! $ join ! $ nothing ! $ join ! $ move ! (1 ∷ 0 ∷ []) $ group ! 3 $ done ! in
    qed 𝓛 (((‵ (flft κ₁ q₁) ⊛ ‵ (flft κ₂ q₂) ⊛ ‵ ftrue) ⊛ ‵ ((type_at (lent Z) κs).own_val r (shr_vals r)) ⊛ raw
    (sem 𝓛 (owns (usize ∷ usize ∷ []) a.1 y.0.4.1)))
    ∷ (raw (fact 𝓤 (κ₂ ⊑ Y.lives)) ⊛ raw (fact 𝓤 Layout)) ∷ []) ∵
    move ! (1 ∷ []) $ split ! $ heard ! _ (λ lives. heard ! _ (λ layout. split ! $ split ! $ move ! (2 ∷ []) $ split ! $
    use1 𝓛 (‵ (seen Z κ₁ at_inner h) ⊛ ‵ (hidden_shr Allowance κ₁ r.now.allowance at_allowance.0 at_allowance.1))
    (fields Z 𝓛 κ₁ κ₂ r) $ split ! $ keep ! (3 ∷ 1 ∷ 0 ∷ 4 ∷ []) $
    -- [the token of κ₁; the `&` to the allowance; the `&` to the inner allocator; the token of κ₂; the locals]
    enter ! _ _ _ _ _ $ alloc_all ! (λ l. pass_all ! refl ((tt, tt), ((tt, record { fits = n_fits }), ((tt, record { fits = m_fits }), tt))) $
    sets ! (addr ! (through ! refl (fld ! refl (stop !)))) refl (tt, tt) $
    let S = Spend 𝓛 𝓜.mem 𝓡.returns in let z = spends 𝓛 𝓜.mem 𝓡.returns κ₁ q₁ at_allowance r.now.allowance in
    use2 𝓛 (raw (S.pre z)) (spend_goes 𝓛 𝓜.mem 𝓡.returns κ₁ q₁ at_allowance r.now.allowance) $
    calls_at ! fm S (spend_met 𝓤 𝓛 𝓜 𝓡 (code.calls-test_support::allowance::Allowance::spend 𝓡.env wired)) z (and_then ! (get ! refl) (no_more !)) (λ v.
    use1 𝓛 (later (some (λ (granted : Bool). given (v ≡ vbool granted) (‵ (flft κ₁ q₁)))))
    (spend_gives 𝓛 𝓜.mem 𝓡.returns κ₁ q₁ at_allowance r.now.allowance v) $ await ! tt $
    pick ! (λ granted. learn ! (λ e. lands_as ! e refl (tt, tt) $
    sets ! (un ! (get ! refl) tt) refl (tt, tt) $
    first ! $ branches ! (get ! refl)
    (λ _. move ! (1 ∷ []) $ drop ! $ nothing ! $ sets ! (agg ! (no_more !)) refl (tt, tt) $
    sets ! (agg ! (and_then ! (lit ! tt) (and_then ! (get ! refl) (no_more !)))) refl (Answer-typed false 0 0) $
    returns_within ! (W.post y) refl (look_at ! 0 refl) $ free_all ! refl $ out (Err (record {})) _ (Answer-err 𝓛))
    (λ _. skips ! $ exec ! 𝓣.C 𝓣.Λ (env here.locals l) (after 4 here.body) (at_ret _ (W.post y)) $
    sets ! (addr ! (through ! refl (fld ! refl (stop !)))) refl (tt, tt) $
    let G = Takes Z 𝓛 𝓜.mem 𝓡.returns in let z' = at_takes Z 𝓛 𝓜.mem 𝓡.returns κ₁ q₁ at_inner h n m τ in
    move ! (1 ∷ 0 ∷ []) $ use2 𝓛 (raw (G.pre z'))
    (Takes-goes Z 𝓛 𝓜.mem 𝓡.returns κ₁ q₁ at_inner h (⊑_trans κ₁ κ₂ Y.lives bounds.0 lives) n m τ layout.0 layout.1 n_fits m_fits) $
    calls_at ! fm G (bound.allocate drops) z' (and_then ! (get ! refl) (and_then ! (get ! refl) (and_then ! (get ! refl) (no_more !)))) (λ u.
    use1 𝓛 (later (raw (Answered Z 𝓛 𝓜.mem 𝓡.returns h τ u) ⊛ ‵ (flft κ₁ q₁)))
    (Takes-gives Z 𝓛 𝓜.mem 𝓡.returns κ₁ q₁ at_inner h n m τ u) $ await ! tt $ split ! $
    answers Z ! 𝓜.mem 𝓡.returns h τ u
    (λ b o is. fjoin ! $ lands_as ! is refl (Answer-typed true b o) $ returns !
    (look_at ! 0 refl) $ free_all ! refl $ out (Ok (block_ptr b o)) _ (Answer-Ok 𝓛 b o))
    (λ is. nothing ! $ lands_as ! is refl (Answer-typed false 0 0) $ returns !
    (look_at ! 0 refl) $ free_all ! refl $ out (Err (record {})) _ (Answer-err 𝓛)))))))))))
