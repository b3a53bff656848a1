-- What LSAs count, as they come and go.
use Rattle.std.proofs.Common.{◌≡◌, ℕ, zero, suc, ◌+◌, ◌<◌, ◌≤◌, Bool, true, false, cond, List, [], ◌∷◌, ◌++◌, ◌==◌, length, take, get_or, Some, None, refl, sym, ap, ◌∙◌, arith}
use Rattle.std.specs.Prelude.{All}
use Rattle.std.specs.List.{count_by, sum_by}
use Rattle.std.proofs.lemmas.Bool.{eqb-true}
use Rattle.std.proofs.lemmas.List.{take_more}
use Rattle.std.proofs.lemmas.List.Elements.{All-nil, All-cons, All-head, All-tail}
use Rattle.std.proofs.lemmas.List.Sums.{count_by-le-length, sum_by-cons, sum_by-append, sum_by-le}
use Rattle.lsa_codec.specs.Accepted.{IsAccepted}
use Rattle.lsa_codec.specs.Fields.{kind_of}
use Rattle.lsa_codec.specs.LsTypes.{router_lsa}
use Rattle.lsa_codec.specs.Links.{link_count, link_length, links_from, links_of}
use Rattle.lsa_codec.proofs.LsaLemmas.{has_texts}
use Rattle.lsdb.specs.declared.counts.LsaCounts.{LsaCounts}
use Rattle.lsdb.specs.Counts.{AreFew, counts_of, has_bit_v, is_virtual, virtual_link_count}
use Rattle.lsdb.specs.Slots.{Slot, item_at, put_slot, full}
use Rattle.lsdb.specs.steps.Counting.{CanAdd, CanTake, with_counts, without_counts}
use Rattle.lsdb.specs.steps.OneSection.{FitSection}

-- ---- the links of one LSA

length-links_from : (n offset : ℕ) (lsa : List ℕ) → length (links_from n offset lsa) ≡ n
unfolding links_from
length-links_from zero offset lsa = refl
length-links_from (suc n) offset lsa = omega (arith, length-links_from n (offset + link_length offset lsa) lsa)

pub links_few : (lsa : List ℕ) → IsAccepted lsa → kind_of lsa ≡ 1 → length (links_of lsa) ≤ 65535
links_few lsa sound kind = omega (arith, length-links_from (link_count lsa) 24 lsa, (has_texts lsa sound kind).few, sound.short)

virtual_few : (lsa : List ℕ) → IsAccepted lsa → virtual_link_count lsa ≤ 65535
virtual_few lsa sound = by_kind (kind_of lsa == router_lsa) refl where
  by_kind : (b : Bool) → (kind_of lsa == router_lsa) ≡ b → cond b (count_by (λ link. is_virtual link.kind) (links_of lsa)) 0 ≤ 65535
  by_kind true is = omega (arith, count_by-le-length (λ link. is_virtual link.kind) (links_of lsa), links_few lsa sound (eqb-true _ _ is))
  by_kind false is = omega arith

all_few : (lsas : List (List ℕ)) → All IsAccepted lsas → All (λ lsa. virtual_link_count lsa ≤ 65535) lsas
all_few [] h = All-nil (λ lsa. virtual_link_count lsa ≤ 65535)
all_few (x ∷ xs) h =
    All-cons (λ lsa. virtual_link_count lsa ≤ 65535) x xs (virtual_few x (All-head IsAccepted x xs h)) (all_few xs (All-tail IsAccepted x xs h))

pub counts_few : (lsas : List (List ℕ)) → All IsAccepted lsas → length lsas ≤ 65535 → AreFew 65535 (counts_of lsas)
counts_few lsas sound few = record {
  lsas = few;
  virtual_ends = omega (arith, count_by-le-length has_bit_v lsas, few);
  virtual_links = omega (arith, sum_by-le virtual_link_count 65535 lsas (all_few lsas sound), few);
}

-- ---- counts by their numbers

abbrev bit_count : List ℕ → ℕ
bit_count lsa = cond (has_bit_v lsa) 1 0

same_counts : (k l m n p q : ℕ) → k ≡ l → m ≡ n → p ≡ q
    → let a : LsaCounts = record { lsas = k; virtual_ends = m; virtual_links = p } in
    let b : LsaCounts = record { lsas = l; virtual_ends = n; virtual_links = q } in a ≡ b
same_counts k l m n p q e f g = rw (e, f, g) refl

-- ---- one slot more

full_two : (ps qs : List Slot) → full (ps ++ qs) ≡ full ps ++ full qs
full_two [] qs = refl
full_two (None ∷ ps) qs = full_two ps qs
full_two (Some x ∷ ps) qs = ap (λ (xs : List (List ℕ)). x ∷ xs) (full_two ps qs)

length_two : (xs ys : List (List ℕ)) → length (xs ++ ys) ≡ length xs + length ys
length_two [] ys = omega arith
length_two (x ∷ xs) ys = omega (arith, length_two xs ys)

pub full_more : (ps : List Slot) (i : ℕ) (p : Slot) → i < length ps → p ≡ get_or ps i p → full (take (i + 1) ps) ≡ full (take i ps) ++ full (p ∷ [])
full_more ps i p lt here =
    ap full (take_more ps i p lt ∙ ap (λ (q : Slot). take i ps ++ q ∷ []) (sym here)) ∙ full_two (take i ps) (p ∷ [])

pub counts_more : (ps : List Slot) (i : ℕ) (p : Slot) (so_far one new : LsaCounts) → i < length ps → p ≡ get_or ps i p
    → so_far ≡ counts_of (full (take i ps)) → one ≡ counts_of (full (p ∷ [])) → new ≡ with_counts so_far one → new ≡ counts_of (full (take (i + 1) ps))
counts_more ps i p so_far one new lt here before this now =
    let xs : List (List ℕ) = full (take i ps) in
    let ys : List (List ℕ) = full (p ∷ []) in
    rw (now, before, this)
    (same_counts _ _ _ _ _ _ (sym (length_two xs ys)) (sym (sum_by-append bit_count xs ys)) (sym (sum_by-append virtual_link_count xs ys))
    ∙ sym (ap counts_of (full_more ps i p lt here)))

pub more_few : (i : ℕ) (so_far one new : LsaCounts) → AreFew i so_far → AreFew 1 one → new ≡ with_counts so_far one → AreFew (i + 1) new
more_few i so_far one new few this now = rw now (record {
  lsas = omega (arith, few.lsas, this.lsas);
  virtual_ends = omega (arith, few.virtual_ends, this.virtual_ends);
  virtual_links = omega (arith, few.virtual_links, this.virtual_links);
})

-- ---- one slot exchanged

sum_first : (f : List ℕ → ℕ) (p : Slot) (ps : List Slot) → sum_by f (full (p ∷ ps)) ≡ sum_by f (full (p ∷ [])) + sum_by f (full ps)
sum_first f None ps = omega arith
sum_first f (Some x) ps = omega (arith, sum_by-cons f x (full ps), sum_by-cons f x [])

sum_at : (f : List ℕ → ℕ) (ps : List Slot) (n : ℕ) (p : Slot) → item_at ps n ≡ Some p → sum_by f (full (p ∷ [])) ≤ sum_by f (full ps)
sum_at f [] n p at = absurd cc
sum_at f (q ∷ ps) zero p at =
    let same : q ≡ p = cc in
    omega (arith, sum_first f q ps, ap (λ (r : Slot). sum_by f (full (r ∷ []))) same)
sum_at f (q ∷ ps) (suc n) p at = omega (arith, sum_first f q ps, sum_at f ps n p at)

sum_put : (f : List ℕ → ℕ) (ps : List Slot) (n : ℕ) (old x : Slot) → item_at ps n ≡ Some old
    → sum_by f (full (put_slot x ps n)) + sum_by f (full (old ∷ [])) ≡ sum_by f (full ps) + sum_by f (full (x ∷ []))
sum_put f [] n old x at = absurd cc
sum_put f (p ∷ ps) zero old x at =
    let same : p ≡ old = cc in
    omega (arith, sum_first f p ps, sum_first f x ps, ap (λ (r : Slot). sum_by f (full (r ∷ []))) same)
sum_put f (p ∷ ps) (suc n) old x at = omega (arith, sum_first f p ps, sum_first f p (put_slot x ps n), sum_put f ps n old x at)

-- how many LSAs there are is such a sum
one_each : (lsas : List (List ℕ)) → sum_by (λ _. 1) lsas ≡ length lsas
one_each [] = refl
one_each (x ∷ xs) = omega (arith, sum_by-cons (λ (_ : List ℕ). 1) x xs, one_each xs)

module _ (ps : List Slot) (n : ℕ) (old x : Slot) (at : item_at ps n ≡ Some old) where
  pub counts_at : CanTake (counts_of (full ps)) (counts_of (full (old ∷ [])))
  counts_at = record {
    lsas = omega (arith, sum_at (λ _. 1) ps n old at, one_each (full ps), one_each (full (old ∷ [])));
    virtual_ends = sum_at bit_count ps n old at;
    virtual_links = sum_at virtual_link_count ps n old at;
  }

  length_put : length (full (put_slot x ps n)) + length (full (old ∷ [])) ≡ length (full ps) + length (full (x ∷ []))
  length_put =
      omega (
        arith,
        sum_put (λ _. 1) ps n old x at,
        one_each (full ps),
        one_each (full (old ∷ [])),
        one_each (full (x ∷ [])),
        one_each (full (put_slot x ps n)),
      )

  pub counts_put : counts_of (full (put_slot x ps n)) ≡ with_counts (without_counts (counts_of (full ps)) (counts_of (full (old ∷ [])))) (counts_of (full (x ∷ [])))
  counts_put = same_counts _ _ _ _ _ _
      (omega (arith, length_put, counts_at.lsas))
      (omega (arith, sum_put bit_count ps n old x at, counts_at.virtual_ends))
      (omega (arith, sum_put virtual_link_count ps n old x at, counts_at.virtual_links))

  pub counts_fit : FitSection (put_slot x ps n) → CanAdd (without_counts (counts_of (full ps)) (counts_of (full (old ∷ [])))) (counts_of (full (x ∷ [])))
  counts_fit sound =
      let few = counts_few (full (put_slot x ps n)) sound.accepted sound.few in
      record {
        lsas = omega (arith, few.lsas, ap (λ (c : LsaCounts). c.lsas) counts_put);
        virtual_ends = omega (arith, few.virtual_ends, ap (λ (c : LsaCounts). c.virtual_ends) counts_put);
        virtual_links = omega (arith, few.virtual_links, ap (λ (c : LsaCounts). c.virtual_links) counts_put);
      }
