-- Units of memory are cut, and serve as room for a type, with the way back. Assumes `Logic`.
use Rattle.std.proofs.Common.{◌≡◌, ℕ, zero, suc, ◌+◌, ◌-◌, ◌*◌, ◌/◌, ◌%◌, ◌^◌, ◌<◌, ◌≤◌, max, [], ◌∷◌, refl, sym, subst, ◌∙◌, arith, ltb}
use Rattle.std.proofs.Common.{ltb→lt, nltb→le, pow_mono, pow-add}
use lib.Dec.{not_T}
use seplogic.Ra.Ura.{Ura}
use mir.Syntax.{Ty, Width, w8, w16, w32, w64, w128, ty_int, ty_array}
use mir.Val.{bytes}
use base.Logic.{SProp, ent, sep, wand, id⊢}
use base.Fml.{Fml, froom, fwand, fex}
use prog.Memory.{size, align, capped}
use prog.Align.{Dv, align_w, align-bytes}
use prog.Capped.{capped_is, capped_small}
use types.Logic.{Logic, sem}
use types.Kit.{‵, raw, ◌⊛◌, ◌$◌, ◌∵◌, !, qed, use1, split, frame, rewrite, fpack, done}
use denote.RawPtr.{Ptr, block_ptr}
use denote.RawPtr.Room.{room_cut, past}
use Rattle.std.specs.Int.{IsPowerOfTwo}
pub use Rattle.linked_list_allocator.proofs.Nodes.{retypes}
pub use Rattle.bumpalo.proofs.Numbers.{power_of_units}
use Rattle.host_heap.specs.Ownership.{units_of, bytes_at, IsBlockSize, block_token, stacked}

past_units : (k o : ℕ) → past (ty_int w128) k o ≡ o + k * 16
past_units zero o = omega arith
past_units (suc k) o = past_units k (o + 16) ∙ omega arith

-- of two powers of two, one is at least twice the other, or they are one
aligned_16 : (τ : Ty) → Dv (align τ) 16
aligned_16 τ = subst (λ (k : ℕ). Dv k 16) (sym (align-bytes τ)) (divides_16 (align_w τ))
  where
    divides_16 : (w : Width) → Dv (bytes w) 16
    divides_16 w8 = tt
    divides_16 w16 = tt
    divides_16 w32 = tt
    divides_16 w64 = tt
    divides_16 w128 = tt

not_less : (n x y : ℕ) → IsPowerOfTwo x → IsPowerOfTwo y → max n 16 ≤ x → y / 2 < max n 16 → y ≤ x
not_less n x y p q above below =
    let j = p.0 in let k = q.0 in
    let close : k ≤ j = nltb→le j k (not_T (ltb j k) (λ t.
    let less : j + 1 ≤ k = omega (arith, ltb→lt j k t) in
    let twice : 2 ^ (j + 1) ≡ 2 ^ j * 2 = pow-add 2 j 1 in
    let most : 2 ^ (j + 1) ≤ 2 ^ k = pow_mono {i = j + 1} {j = k} less in
    omega (arith, p.1, q.1))) in
    let most : 2 ^ k ≤ 2 ^ j = pow_mono {i = k} {j = j} close in
    omega (arith, p.1, q.1)

-- a request has one block size
pub one_size : (n x y : ℕ) → IsBlockSize n x → IsBlockSize n y → x ≡ y
one_size n x y a b =
    let under = not_less n x y a.0 b.0 a.1 b.2 in
    let over = not_less n y x b.0 a.0 b.1 a.2 in
    omega arith

module _ {M : Type 1} {𝓤 : Ura M} (𝓛 : Logic 𝓤) (b : ℕ) where
  open 𝓛 use {H}

  abbrev Pr : Type 2
  Pr = SProp 𝓤

  abbrev ◌⊢◌ : Pr → Pr → Type 1
  P ⊢ Q = ent 𝓤 P Q

  abbrev ◌∗◌ : Pr → Pr → Pr
  P ∗ Q = sep 𝓤 P Q

  abbrev ◌-∗◌ : Pr → Pr → Pr
  P -∗ Q = wand 𝓤 P Q

  infix 26 ◌⊢◌
  infixr 35 ◌∗◌
  infixr 30 ◌-∗◌
  abbrev room_of : ℕ → ℕ → Pr
  room_of x n = H.room (units_of n) b x

  pub cuts : (x m n : ℕ) → m % 16 ≡ 0 → m ≤ n → room_of x n ⊢ room_of x m ∗ room_of (x + m) (n - m)
  cuts x m n whole less =
      let unit : Ty = ty_int w128 in
      let sum : n / 16 ≡ m / 16 + (n - m) / 16 = omega arith in
      let far : past unit (m / 16) x ≡ x + m = past_units (m / 16) x ∙ omega arith in
      qed 𝓛 (raw (room_of x n) ∷ []) ∵ rewrite ! 0 (λ (k : ℕ). raw (H.room (ty_array unit k) b x)) sum refl $
      use1 𝓛 (raw (room_of x m) ⊛ raw (room_of (past unit (m / 16) x) (n - m))) (room_cut 𝓛 unit (m / 16) ((n - m) / 16) b x) $ split ! $
      rewrite ! 1 (λ (d : ℕ). raw (room_of d (n - m))) far refl $ done !

  -- a block is handed out as room for the type that was asked for, with the right to free it
  pub hands_out : (τ : Ty) (x n m : ℕ) → capped (size τ) ≡ n → IsBlockSize n m → n ≤ 2 ^ 40 → room_of x m ⊢ H.room τ b x ∗ sem 𝓛 (block_token τ (block_ptr b x))
  hands_out τ x n m sized block small =
      let short : size τ < 2 ^ 63 = capped_small (size τ) (omega arith) in
      let same : n ≡ size τ = sym sized ∙ capped_is (size τ) (omega arith) in
      let is : IsBlockSize (size τ) m = subst (λ (k : ℕ). IsBlockSize k m) same block in
      let back : ℕ → Fml = λ k. fwand (froom τ b x) (bytes_at (block_ptr b x) k) in
      qed 𝓛 (raw (room_of x m) ∷ []) ∵
      use1 𝓛 (‵ (froom τ b x) ⊛ ‵ (back m))
      (retypes 𝓛 b τ x m (power_of_units m is.0 (omega (arith, is.1))) (omega (arith, is.1)) (aligned_16 τ)) $ split ! $ frame ! $
      fpack ! (IsBlockSize (size τ) m × (size τ ≤ 2 ^ 40)) (λ _. back m) (is, omega (arith, same)) $
      fpack ! ℕ (λ k. fex (IsBlockSize (size τ) k × (size τ ≤ 2 ^ 40)) (λ _. back k)) m $ done !

-- an empty stack is one of any size
pub restacked : {M : Type 1} {𝓤 : Ura M} (𝓛 : Logic 𝓤) (k m n : ℕ) (p : Ptr) → (0 < k → n ≡ m) → ent 𝓤 (sem 𝓛 (stacked m k p)) (sem 𝓛 (stacked n k p))
restacked {𝓤 = 𝓤} 𝓛 zero m n p same = id⊢ 𝓤 _
restacked {𝓤 = 𝓤} 𝓛 (suc k) m n p same =
    subst (λ (j : ℕ). ent 𝓤 (sem 𝓛 (stacked m (suc k) p)) (sem 𝓛 (stacked j (suc k) p))) (sym (same (omega arith))) (id⊢ 𝓤 _)
