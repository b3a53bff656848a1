-- An address that some prefix covers is in one atom.
use Rattle.std.proofs.Common.{◌≡◌, ℕ, zero, suc, ◌^◌, ◌<◌, ◌≤◌, Bool, true, false, List, refl, sym, ap, ◌∙◌, arith, ⊎_elim}
use Rattle.std.proofs.lemmas.Bool.{cases_eq, cases_lt, false≢true}
use Rattle.lsa_codec.specs.Prefix.{Net, masked}
use Rattle.lsa_codec.specs.declared.address.Addr.{Addr}
use Rattle.forwarding.specs.Matches.{has_net}
use Rattle.loop_report.specs.Atoms.{IsInAtom, NoneLonger}

module _ (nets : List Net) (address : Addr) where
  abbrev is_among : ℕ → Bool
  is_among len = has_net nets (masked address len)

  record IsLast : Type 0 where
    pub len : ℕ
    pub short : len ≤ 32
    pub among : has_net nets (masked address len) ≡ true
    pub longest : NoneLonger nets len address

  -- the longest of those that cover the address, when shorter and shorter ones are looked at
  last : (most len : ℕ) → most ≤ 32 → len ≤ most → is_among len ≡ true → ((longer : ℕ) → most < longer → longer ≤ 32 → is_among longer ≡ false) → IsLast
  last zero len short le has none =
      let same : len ≡ 0 = omega arith in
      record { len = 0; short = short; among = sym (ap is_among same) ∙ has; longest = none }
  last (suc most) len short le has none = by (is_among (suc most)) refl (λ less later. last most len (omega arith) less has later)
    where
      by : (b : Bool) → is_among (suc most) ≡ b → (len ≤ most → ((longer : ℕ) → most < longer → longer ≤ 32 → is_among longer ≡ false) → IsLast) → IsLast
      by true is rest = record { len = suc most; short = short; among = is; longest = none }
      by false is rest =
          rest
          (⊎_elim (λ same. absurd (false≢true (sym is ∙ sym (ap is_among same) ∙ has))) (λ other. omega arith) (cases_eq len (suc most)))
          (λ longer lt le32. ⊎_elim (λ same. ap is_among same ∙ is) (λ other. none longer (omega arith) le32) (cases_eq longer (suc most)))

  pub in_some : (len : ℕ) → address.0 < 2 ^ 32 → len ≤ 32 → is_among len ≡ true → (net : Net) × (has_net nets net ≡ true) × IsInAtom nets net address
  in_some len number short has =
      let found = last 32 len (omega arith) short has (λ longer lt le. absurd (omega arith)) in (
        masked address found.len,
        found.among,
        record { number = number; short = found.short; covers = refl; longest = found.longest },
      )

  not_longer : (a b : Net) → has_net nets b ≡ true → IsInAtom nets a address → IsInAtom nets b address → a.len < b.len → ⊥
  not_longer a b has in_a in_b lt =
      false≢true (sym (in_a.longest b.len lt in_b.short) ∙ ap (has_net nets) in_b.covers ∙ has)

  pub in_one : (a b : Net) → has_net nets a ≡ true → has_net nets b ≡ true → IsInAtom nets a address → IsInAtom nets b address → a ≡ b
  in_one a b has_a has_b in_a in_b =
      ⊎_elim (λ less. absurd (not_longer a b has_b in_a in_b less))
      (λ not_less. ⊎_elim (λ more. absurd (not_longer b a has_a in_b in_a more))
      (λ not_more. (let same : a.len ≡ b.len = omega arith in sym in_a.covers ∙ ap (masked address) same ∙ in_b.covers)) (cases_lt b.len a.len))
      (cases_lt a.len b.len)
