-- Steps that hand on hops, one after another.
use Rattle.std.proofs.Common.{ℕ, List, ◌∙◌, subst, ◌⊎◌}
use Rattle.next_hops.specs.declared.hop.Hop.{Hop}
use Rattle.next_hops.specs.declared.table.HopTable.{HopTable}
use Rattle.next_hops.specs.steps.Passing.{Grows}
use Rattle.next_hops.specs.steps.Table.{Hands, Stays, hops_so_far}
use Rattle.next_hops.proofs.Growing.{Grows-same, Grows-then}
use Rattle.next_hops.proofs.Sharing.{Keeps-then}

module _ {A : Type 0} where
  pub Hands-then : (P Q R : ℕ → Hop → Type 0) (a b c : HopTable A) → Hands P a b → Hands Q b c
      → ((i : ℕ) (h : Hop) → R i h → P i h ⊎ Q i h) → ((i : ℕ) (h : Hop) → P i h ⊎ Q i h → R i h) → Hands R a c
  Hands-then P Q R a b c one two parts whole = record {
    grows = Grows-then P Q R (hops_so_far a) (hops_so_far b) (hops_so_far c) one.grows two.grows parts whole;
    keeps = Keeps-then a.lists.keys b.lists.keys c.lists.keys one.keeps two.keeps;
    whole = two.whole;
  }

  pub Hands-same : (P Q : ℕ → Hop → Type 0) (a b : HopTable A) → ((i : ℕ) (h : Hop) → P i h → Q i h)
      → ((i : ℕ) (h : Hop) → Q i h → P i h) → Hands P a b → Hands Q a b
  Hands-same P Q a b there back hands = record {
    grows = Grows-same P Q (hops_so_far a) (hops_so_far b) there back hands.grows;
    keeps = hands.keeps;
    whole = hands.whole;
  }

  pub Stays-then : (a b c : HopTable A) → Stays a b → Stays b c → Stays a c
  Stays-then a b c one two = record {
    hops = two.hops ∙ one.hops;
    keeps = Keeps-then a.lists.keys b.lists.keys c.lists.keys one.keeps two.keeps;
    whole = two.whole;
  }

  -- after a step that leaves the hops as they are
  pub Stays-Hands : (P : ℕ → Hop → Type 0) (a b c : HopTable A) → Stays a b → Hands P b c → Hands P a c
  Stays-Hands P a b c stays hands = record {
    grows = subst (λ (table : List (List Hop)). Grows P table (hops_so_far c)) stays.hops hands.grows;
    keeps = Keeps-then a.lists.keys b.lists.keys c.lists.keys stays.keeps hands.keeps;
    whole = hands.whole;
  }
