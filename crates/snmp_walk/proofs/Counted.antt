-- The numbers of rows, counted one by one.
use Rattle.std.proofs.Common.{◌≡◌, ℕ, ◌+◌, ◌<◌, ◌≤◌, ◌^◌, add-zero, Bool, true, false, List, Some, None, length, length-take, get_or, take, refl, sym, ap, subst, ◌∙◌, arith}
use Rattle.std.specs.Prelude.{◌==◌}
use Rattle.std.specs.BTreeMap.{BTreeMap, get, Updates}
use Rattle.std.specs.Ordering.{eq_by_cmp, nat_cmp}
use Rattle.std.proofs.lemmas.Bool.{eqb-true, eq-eqb}
use Rattle.std.proofs.lemmas.Cmp.{eq_by_cmp_equiv, nat_cmp_total}
use Rattle.std.proofs.lemmas.List.Sums.{count_by-le-length, count_by_more_no, count_by_more_yes}
use Rattle.std.proofs.lemmas.Map.Lookups.{exact_unsigned}
use Rattle.findings.specs.declared.reported_lsa.ReportedLsa.{ReportedLsa}
use Rattle.snmp_walk.specs.Counts.{counted_as, counts, is_counted, number_among}
use Rattle.snmp_walk.specs.steps.Numbers.{AreMore, AreNumbers, number_in, one_if}
use Rattle.snmp_walk.proofs.Rows.{eq_true}

-- ---- numbers that the order distinguishes

same_number : (a b : ℕ) → eq_by_cmp nat_cmp a b ≡ true → a ≡ b
same_number a b h = exact_unsigned a b (eq_true (nat_cmp a b) h)

apart : (a b : ℕ) → eq_by_cmp nat_cmp a b ≡ false → (a == b) ≡ false
apart a b h = by (a == b) refl
  where
    by : (c : Bool) → (a == b) ≡ c → (a == b) ≡ false
    by false e = e
    by true e =
        let same : a ≡ b = eqb-true a b e in
        let here : eq_by_cmp nat_cmp a b ≡ true = subst (λ n. eq_by_cmp nat_cmp a n ≡ true) same ((eq_by_cmp_equiv nat_cmp_total).refl a) in
        cc

-- ---- one more row

-- one that nothing counts
pub no_more : (numbers : BTreeMap ℕ ℕ) (row : ReportedLsa) → counted_as row ≡ None → AreMore numbers row numbers
no_more numbers row is counted =
    sym (add-zero (number_in (get nat_cmp numbers counted)))
    ∙ ap (λ o. number_in (get nat_cmp numbers counted) + one_if (counts counted o)) (sym is)

module _ (old new : BTreeMap ℕ ℕ) (row : ReportedLsa) where
  pub one_more : (number : ℕ) → counted_as row ≡ Some number → Updates nat_cmp old new number (Some (number_in (get nat_cmp old number) + 1))
      → AreMore old row new
  one_more number is put counted = by (eq_by_cmp nat_cmp number counted) refl
    where
      by : (b : Bool) → eq_by_cmp nat_cmp number counted ≡ b
          → number_in (get nat_cmp new counted) ≡ number_in (get nat_cmp old counted) + one_if (is_counted counted row)
      by true h =
          subst (λ k. number_in (get nat_cmp new k) ≡ number_in (get nat_cmp old k) + one_if (is_counted k row)) (same_number number counted h)
          (ap number_in put.1
          ∙ ap (λ b. number_in (get nat_cmp old number) + one_if b) (sym (ap (counts number) is ∙ eq-eqb number number refl)))
      by false h =
          ap number_in (put.2 counted h)
          ∙ sym (add-zero (number_in (get nat_cmp old counted)))
          ∙ ap (λ b. number_in (get nat_cmp old counted) + one_if b) (sym (ap (counts counted) is ∙ apart number counted h))

pub numbers_more : (rows : List ReportedLsa) (i : ℕ) (row : ReportedLsa) (old new : BTreeMap ℕ ℕ) → i < length rows → row ≡ get_or rows i row
    → AreNumbers (take i rows) old → AreMore old row new → AreNumbers (take (i + 1) rows) new
numbers_more rows i row old new within at known more counted = by (is_counted counted row) refl
  where
    so_far : number_in (get nat_cmp new counted) ≡ number_among (take i rows) counted + one_if (is_counted counted row)
    so_far = more counted ∙ ap (λ n. n + one_if (is_counted counted row)) (known counted)

    by : (b : Bool) → is_counted counted row ≡ b → number_in (get nat_cmp new counted) ≡ number_among (take (i + 1) rows) counted
    by true h =
        so_far ∙ ap (λ b. number_among (take i rows) counted + one_if b) h
        ∙ sym (count_by_more_yes (is_counted counted) rows i row within (ap (is_counted counted) (sym at) ∙ h))
    by false h =
        so_far ∙ ap (λ b. number_among (take i rows) counted + one_if b) h ∙ add-zero (number_among (take i rows) counted)
        ∙ sym (count_by_more_no (is_counted counted) rows i row within (ap (is_counted counted) (sym at) ∙ h))

-- no number is above that of the rows
pub few : (rows : List ReportedLsa) (i : ℕ) (numbers : BTreeMap ℕ ℕ) → i + 1 < 2 ^ 64 → AreNumbers (take i rows) numbers → (counted : ℕ)
    → number_in (get nat_cmp numbers counted) + 1 < 2 ^ 64
few rows i numbers small known counted =
    let most : number_among (take i rows) counted ≤ length (take i rows) = count_by-le-length (is_counted counted) (take i rows) in
    subst (λ n. n + 1 < 2 ^ 64) (sym (known counted)) (omega (arith, most, small, length-take i rows))
