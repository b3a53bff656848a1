-- What is added to groups and sets.
use Rattle.std.proofs.Common.{◌≡◌, ◌+◌, Bool, true, false, cond, List, [], ◌∷◌, ◌++◌, length, take}
use Rattle.std.proofs.Common.{get_or, refl, sym, ap, ◌∙◌, subst, arith, ◌⊎◌, inl, inr, ◌<◌, ℕ}
use Rattle.std.specs.Prelude.{◌&&◌, ◌||◌, not, reverse}
use Rattle.std.specs.BTreeSet.{BTreeSet, InsertsAll, Updates, contains}
use Rattle.std.specs.List.{Contains, list_any}
use Rattle.std.specs.Ordering.{eq_by_cmp}
use Rattle.std.proofs.lemmas.Cmp.{eq_by_cmp_equiv}
use Rattle.std.proofs.lemmas.List.{length-append, reverse-append, take_more}
use Rattle.std.proofs.lemmas.List.Elements.{Contains-append_cases, Contains-append_left, Contains-append_right}
use Rattle.std.proofs.lemmas.List.Folds.{list_any-append}
use Rattle.lsa_codec.specs.Order.{router_cmp}
use Rattle.lsa_codec.specs.declared.address.RouterId.{RouterId}
use Rattle.lsa_codec.proofs.OrderLemmas.{router_total}
use Rattle.microloops.specs.steps.Groups.{GroupValue, Has, IsJoined}
use Rattle.microloops.specs.steps.Searching.{SearchValue}
use Rattle.microloops.proofs.Sets.{at_same, at_self}

-- ---- two groups

pub absorbed : (a b joined : GroupValue) → InsertsAll router_cmp a.routers b.routers.keys joined.routers → joined.pending ≡ a.pending ++ b.pending
    → joined.is_loop ≡ true → IsJoined a b joined
absorbed a b joined all pending flag = record {
  routers = all.0;
  from_pending = λ v c. Contains-append_cases a.pending b.pending v (subst (λ (ps : List RouterId). Contains ps v) pending c);
  left = λ v c. subst (λ (ps : List RouterId). Contains ps v) (sym pending) (Contains-append_left a.pending b.pending v c);
  right = λ v c. subst (λ (ps : List RouterId). Contains ps v) (sym pending) (Contains-append_right a.pending b.pending v c);
  count = ap length pending ∙ length-append a.pending b.pending;
  is_loop = flag;
}

other_way : (x y z : Bool) → x ≡ (y || z) → x ≡ (z || y)
other_way x true true e = e
other_way x true false e = e
other_way x false true e = e
other_way x false false e = e

pub swapped : (a b joined : GroupValue) → IsJoined a b joined → IsJoined b a joined
swapped a b joined is = record {
  routers = λ v. other_way (contains router_cmp joined.routers v) (contains router_cmp a.routers v) (contains router_cmp b.routers v) (is.routers v);
  from_pending = λ v c. other_side v (is.from_pending v c);
  left = is.right;
  right = is.left;
  count = (let count : length joined.pending ≡ length a.pending + length b.pending = is.count in omega arith);
  is_loop = is.is_loop;
}
  where
    other_side : (v : RouterId) → Contains a.pending v ⊎ Contains b.pending v → Contains b.pending v ⊎ Contains a.pending v
    other_side v (inl c) = inr c
    other_side v (inr c) = inl c

-- ---- a set without some routers

without_one : (old seen here : Bool) → cond here false (old && not seen) ≡ (old && not (seen || (here || false)))
without_one true true true = refl
without_one true true false = refl
without_one true false true = refl
without_one true false false = refl
without_one false true true = refl
without_one false true false = refl
without_one false false true = refl
without_one false false false = refl

pub none_removed : (b : Bool) → b ≡ (b && not false)
none_removed true = refl
none_removed false = refl

-- one router more is taken out
pub one_removed : (first before after : BTreeSet RouterId) (routers : List RouterId) (i : ℕ) (d : RouterId) → i < length routers
    → ((v : RouterId) → contains router_cmp before v ≡ (contains router_cmp first v && not (list_any (eq_by_cmp router_cmp v) (take i routers))))
    → Updates router_cmp before after (get_or routers i d) false → (v : RouterId)
    → contains router_cmp after v ≡ (contains router_cmp first v && not (list_any (eq_by_cmp router_cmp v) (take (i + 1) routers)))
one_removed first before after routers i d lt was u v =
    let k = get_or routers i d in
    let seen = list_any (eq_by_cmp router_cmp v) (take i routers) in
    let here = eq_by_cmp router_cmp v k in
    u.0 v
    ∙ ap (λ (b : Bool). cond b false (contains router_cmp before v)) ((eq_by_cmp_equiv router_total).symm k v)
    ∙ ap (λ (b : Bool). cond here false b) (was v)
    ∙ without_one (contains router_cmp first v) seen here
    ∙ ap (λ (b : Bool). contains router_cmp first v && not b) (sym (list_any-append (eq_by_cmp router_cmp v) (take i routers) (k ∷ [])))
    ∙ ap (λ (rs : List RouterId). contains router_cmp first v && not (list_any (eq_by_cmp router_cmp v) rs)) (sym (take_more routers i d lt))

-- ---- a set of one router

module _ (set : BTreeSet RouterId) (k : RouterId) (is : (v : RouterId) → contains router_cmp set v ≡ (eq_by_cmp router_cmp v k || false)) where
  pub only_one : (v : RouterId) → Has set v → k ≡ v
  only_one v h = sym (at_same v k (from_or (eq_by_cmp router_cmp v k) (sym (is v) ∙ h)))
    where
      from_or : (b : Bool) → (b || false) ≡ true → b ≡ true
      from_or true e = refl
      from_or false e = e

  pub has_one : Has set k
  has_one = is k ∙ ap (λ (b : Bool). b || false) (at_self k)

-- ---- the last group of a path

pub last_first : (gs : List GroupValue) (g : GroupValue) → reverse (gs ++ g ∷ []) ≡ g ∷ reverse gs
last_first gs g = reverse-append gs (g ∷ [])

pub nothing : {X : Type 0} (xs : List X) → length xs ≡ 0 → xs ≡ []
nothing [] none = refl
nothing (x ∷ xs) none = absurd (omega arith)

-- ---- the state of a search

abbrev pub with_groups : BTreeSet RouterId → BTreeSet RouterId → List GroupValue → List (RouterId × List RouterId) → SearchValue
with_groups unseen on_path groups loops = record { unseen = unseen; on_path = on_path; path = groups; loops = loops }

-- its path as the code has it, the last group at the end
abbrev pub state : BTreeSet RouterId → BTreeSet RouterId → List GroupValue → List (RouterId × List RouterId) → SearchValue
state unseen on_path groups loops = with_groups unseen on_path (reverse groups) loops

pub removed_keys : (first after : BTreeSet RouterId) (routers keys : List RouterId) → routers ≡ keys
    → ((v : RouterId) → contains router_cmp after v ≡ (contains router_cmp first v && not (list_any (eq_by_cmp router_cmp v) routers)))
    → (v : RouterId) → contains router_cmp after v ≡ (contains router_cmp first v && not (list_any (eq_by_cmp router_cmp v) keys))
removed_keys first after routers keys same removed v =
    removed v ∙ ap (λ (rs : List RouterId). contains router_cmp first v && not (list_any (eq_by_cmp router_cmp v) rs)) same
