-- Where all done edits are taken back, there is the database that the session began at.
use Rattle.std.proofs.Common.{◌≡◌, ℕ, ◌-◌, cond, le-leb, length, take, Option, None, Some, ap, sym, ◌∙◌, arith}
use Rattle.std.specs.Prelude.{option_map, unwrap_or}
use Rattle.lsdb.specs.Slots.{Slots, lists_of}
use Rattle.edit_history.specs.Session.{Session, after_edits, moved_back, state}
use Rattle.branches.specs.Branches.{Sessions, before_last}

all_back : (s : Session) (k : ℕ) → k ≡ length s.done → before_last k s ≡ Some s.base
all_back s k is =
    let none_left : length s.done - k ≡ 0 = omega (arith, is) in
    ap (λ b. cond b (Some (state (moved_back k s))) None) (le-leb k (length s.done) (omega (arith, is)))
    ∙ ap (λ n. Some (after_edits s.base (take n s.done))) none_left

some_is : {X : Type 0} (x y : X) → Some x ≡ Some y → x ≡ y
some_is x y is = ap (λ o. unwrap_or o x) is

-- of a branch, before and after it was prepared
module _ (branch k : ℕ) (all now : Sessions) (kept : now ≡ all) (is : k ≡ length (now branch).done)
    (found : Option Slots) (has : option_map lists_of found ≡ before_last k (now branch)) where
  pub found_base : (db : Slots) → found ≡ Some db → lists_of db ≡ (all branch).base
  found_base db some =
      some_is (lists_of db) (now branch).base (sym (ap (option_map lists_of) some) ∙ has ∙ all_back (now branch) k is)
      ∙ ap (λ (sessions : Sessions). (sessions branch).base) kept

  pub is_found : found ≡ None → ⊥
  is_found none =
      let is_some : None ≡ Some (now branch).base = sym (ap (option_map lists_of) none) ∙ has ∙ all_back (now branch) k is in
      cc
