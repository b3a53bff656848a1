-- Options one after the other.
use Rattle.std.proofs.Common.{◌≡◌, ◌≢◌, ℕ, suc, ◌+◌, ◌-◌, ◌≤◌, ◌<◌, eqb, List, Option, Some, None, refl, sym, ap, ◌∙◌, arith}
use Rattle.std.proofs.lemmas.Bool.{cond-true, cond-false, eq-eqb, ne_eqb}
use Rattle.capture_files.specs.declared.order.Order.{Order}
use Rattle.capture_files.specs.Interfaces.{first_option, value_or, option_among}

-- the first of the options that are left
opened : (n i : ℕ) (order : Order) (code : ℕ) (rest : List ℕ) → i < n
    → option_among (n - i) order code rest ≡ value_or code (λ r. option_among (n - (i + 1)) order code r) (first_option order rest)
unfolding option_among
opened n i order code rest lt = let k : n - i ≡ suc (n - (i + 1)) = omega arith in rw k refl

pub none_left : (n i : ℕ) (order : Order) (code : ℕ) (rest : List ℕ) (total : Option (List ℕ)) → i < n
    → None ≡ first_option order rest → option_among (n - i) order code rest ≡ total → None ≡ total
none_left n i order code rest total lt none h =
    ap (value_or code (λ r. option_among (n - (i + 1)) order code r)) none ∙ sym (opened n i order code rest lt) ∙ h

pub value_found : (n i : ℕ) (order : Order) (code found : ℕ) (rest value after : List ℕ) (total : Option (List ℕ)) → i < n
    → Some (found, value, after) ≡ first_option order rest → found ≡ code → option_among (n - i) order code rest ≡ total → Some value ≡ total
value_found n i order code found rest value after total lt some same h =
    sym (cond-true (eqb found code) (Some value) (option_among (n - (i + 1)) order code after) (eq-eqb found code same))
    ∙ ap (value_or code (λ r. option_among (n - (i + 1)) order code r)) some ∙ sym (opened n i order code rest lt) ∙ h

pub goes_on : (n i : ℕ) (order : Order) (code found : ℕ) (rest value after : List ℕ) (total : Option (List ℕ)) → i < n
    → Some (found, value, after) ≡ first_option order rest → found ≢ code → option_among (n - i) order code rest ≡ total
    → option_among (n - (i + 1)) order code after ≡ total
goes_on n i order code found rest value after total lt some other h =
    sym (cond-false (eqb found code) (Some value) (option_among (n - (i + 1)) order code after) (ne_eqb found code other))
    ∙ ap (value_or code (λ r. option_among (n - (i + 1)) order code r)) some ∙ sym (opened n i order code rest lt) ∙ h

pub all_seen : (n i : ℕ) (order : Order) (code : ℕ) (rest : List ℕ) (total : Option (List ℕ)) → n ≤ i
    → option_among (n - i) order code rest ≡ total → None ≡ total
unfolding option_among
all_seen n i order code rest total le h =
    let k : n - i ≡ 0 = omega arith in
    let one : option_among (n - i) order code rest ≡ None = rw k refl in
    sym one ∙ h
