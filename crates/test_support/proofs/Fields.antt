-- What a walk has of a `&` to a `FailingAlloc`, and of a call of `Allowance::spend`. Assumes `Logic`.
--     Allowance                  the row of the field with the count
--     lent                       the `&self` of both functions, at a signature with two lifetimes
--     at_types, instance         the types that both functions are called at, and one of the two at them
--     inner_at, allowance_at     where the two fields of the value at a place are
--     fields                     of `&self` there is a `&` to each field
--     Spend, spends              the contract of `spend`, and what a caller picks for it: the lifetime, a share of its token, the place and the value
--     spend_goes, spend_gives    what such a call is given, and what is left after it
use Rattle.std.proofs.Common.{◌≡◌, ℕ, ◌+◌, ◌<◌, Bool, true, [], ◌∷◌, refl, ap, Bor}
use seplogic.Ra.Ura.{Ura}
use mir.Syntax.{Args, Fn, a_type, dnil, dcons}
use mir.Val.{Val, vptr, vbool}
use mir.MapTy.{inst_fn}
use base.Logic.{SProp, ent, sep, id⊢}
use base.Fml.{Lft, Share, ftrue, fsep, flft}
use prog.Memory.{Memory, size, align, up}
use prog.Routine.{Routine}
use types.Logic.{Logic, sem}
use contract.Monad.{Fun, fact}
use types.Kit.{‵, raw, ◌⊛◌, some, later, given, mean, ◌$◌, ◌∵◌, !, qed, done, move, keep, use1, split, join, fsplit, fjoin, feq_i, feq_l, pick, await}
use types.Kit.{updating, show, check, now as at_once}
use denote.Builtin.{bool, RefOf}
use denote.Memory.{hidden_shr}
use denote.Opens.{unhide}
use denote.Param.{param, bounded}
use denote.RattleType.{RattleType}
use denote.Ref.{shr_vals}
use denote.Signature.{Slot, plain, type_at}
use denote.Steps.{nothing, only}
use denote.Triple.Spec.{triple_of}
use denote.Triple.Statement.{Contract}
use Rattle.std.proofs.alloc.Calls.{Al, α, seen}
use Rattle.test_support.specs.contracts.failing_alloc.FailingAlloc as failing
use Rattle.test_support.specs.contracts.allowance.Allowance as allowance
use Rattle.test_support.specs.contracts.allowance.Allowance.spend as spend

abbrev pub Allowance : RattleType
Allowance = allowance.the_row

module _ (Z : Al) where
  abbrev pub lent : Slot 2
  lent = RefOf (0 ∷ []) tt (plain (λ _. failing.the_row (param 0 Z.row))) (λ _. tt)

  abbrev pub at_types : Args
  at_types = bounded (a_type ∷ []) (Z.row, tt) (dcons Z.d (dcons Z.drops dnil))

  abbrev pub instance : Fn → Fn
  instance f = inst_fn at_types f

  abbrev pub inner_at : ℕ × ℕ → ℕ × ℕ
  inner_at p = (p.0, p.1 + up (align (α Z)) 0)

  abbrev pub allowance_at : ℕ × ℕ → ℕ × ℕ
  allowance_at p = (p.0, p.1 + up 8 (up (align (α Z)) 0 + size (α Z)))

module _ (Z : Al) {M : Type 1} {𝓤 : Ura M} (𝓛 : Logic 𝓤) where
  pub fields : (κ₁ κ₂ : Lft) (r : Bor (failing.the_row Z.row).Denot)
      → ent 𝓤 (sem 𝓛 ((type_at {n = 2} (lent Z) (κ₁, (κ₂, tt))).own_val r (shr_vals r)))
      (sep 𝓤 (sem 𝓛 (seen Z κ₁ (inner_at Z r.ref_ptr) r.now.inner))
      (sem 𝓛 (hidden_shr Allowance κ₁ r.now.allowance (allowance_at Z r.ref_ptr).0 (allowance_at Z r.ref_ptr).1)))
  fields κ₁ κ₂ r =
      qed 𝓛 (‵ ((type_at {n = 2} (lent Z) (κ₁, (κ₂, tt))).own_val r (shr_vals r)) ∷ []) ∵
      fsplit ! $ move ! (1 ∷ []) $ unhide ! $ fsplit ! $ fsplit ! $ move ! (1 ∷ []) $ fsplit ! $ keep ! (2 ∷ 0 ∷ []) $ done !

module _ {M : Type 1} {𝓤 : Ura M} (𝓛 : Logic 𝓤) (at_mem : Memory → SProp 𝓤) (run : Routine → Fun 𝓤) where
  abbrev pub Spend : Contract 𝓤
  Spend = triple_of 𝓛 spend.signature (spend.spec 𝓛 at_mem run)

  abbrev pub spends : Lft → Share → ℕ × ℕ → Allowance.Denot → Spend.Ghost
  spends κ q c x = (((κ, tt), (q, tt), tt, (record { ref_ptr = c; now = x }, tt), (vptr c.0 c.1 ∷ [], tt)), tt)

module _ {M : Type 1} {𝓤 : Ura M} (𝓛 : Logic 𝓤) (at_mem : Memory → SProp 𝓤) (run : Routine → Fun 𝓤) (κ : Lft) (q : Share) (c : ℕ × ℕ) (x : Allowance.Denot) where
  open 𝓛 use {H, A}

  pub spend_goes : ent 𝓤 (sep 𝓤 (A.lft κ q) (sem 𝓛 (hidden_shr Allowance κ x c.0 c.1))) ((Spend 𝓛 at_mem run).pre (spends 𝓛 at_mem run κ q c x))
  spend_goes =
      qed 𝓛 (‵ (flft κ q) ∷ ‵ (hidden_shr Allowance κ x c.0 c.1) ∷ []) ∵
      nothing ! $ move ! (1 ∷ 0 ∷ []) $ join ! $ nothing ! $ move ! (2 ∷ []) $
      feq_i ! _ (vptr c.0 c.1 ∷ []) _ refl $ fjoin ! $ fjoin ! $ move ! (1 ∷ []) $ join ! $ nothing ! $ move ! (1 ∷ []) $ done !

  pub spend_gives : (v : Val)
      → ent 𝓤 ((Spend 𝓛 at_mem run).post (spends 𝓛 at_mem run κ q c x) v) (H.⇛ (mean 𝓛 (some (λ (granted : Bool). given (v ≡ vbool granted) (‵ (flft κ q))))))
  spend_gives v =
      qed 𝓛 (raw ((Spend 𝓛 at_mem run).post (spends 𝓛 at_mem run κ q c x) v) ∷ []) ∵ updating ! $
      use1 𝓛 (later
      (some (λ (granted : Bool). ((‵ (flft κ q) ⊛ ‵ ftrue) ⊛ ‵ (bool.own_val granted (v ∷ []))) ⊛ some
      (λ (ws : Unit {0} × Unit {0}). ‵ (fsep ftrue ftrue) ⊛ raw (fact 𝓤 (granted ≡ true → 0 < x.limit)))))) (id⊢ 𝓤 _) $
      await ! tt $ pick ! (λ granted. split ! $ split ! $ split ! $ move ! (2 ∷ []) $ feq_l ! (λ e. keep ! (0 ∷ []) $ at_once ! $
      show ! (λ (b : Bool). mean 𝓛 (given (v ≡ vbool b) (‵ (flft κ q)))) granted $ check ! (ap only e) $ done !))
