-- The first naming of each router, one naming after another.
use Rattle.std.proofs.Common.{◌≡◌, ℕ, suc, Bool, true, false, cond, ◌+◌, ◌<◌, ◌≤◌, List, [], ◌∷◌, ◌++◌, length, get_or, drop, Option, Some, sym, ap, ◌∙◌, add-one, append_assoc}
use Rattle.std.proofs.lemmas.List.{append-nil}
use Rattle.std.proofs.Math.ListN.{drop_of_length-le}
use Rattle.std.proofs.Math.Seq.{drop-cons}
use Rattle.lsa_codec.specs.declared.address.RouterId.{RouterId}
use Rattle.audit_lsas.specs.declared.naming.Naming.{Naming}
use Rattle.audit_lsas.specs.Undescribed.{first_of_each, is_of_last}

-- what a naming leaves of those after it: it is passed over, or is the first of its router
abbrev pub LeavesRest : List Naming → Option RouterId → List Naming → Option RouterId → Naming → Type 0
LeavesRest new next old last n = (rest : List Naming) → new ++ first_of_each next rest ≡ old ++ first_of_each last (n ∷ rest)

pub passed_over : (found : List Naming) (last : Option RouterId) (n : Naming) → is_of_last last n ≡ true → LeavesRest found last found last n
passed_over found last n is = λ rest.
    ap (λ (b : Bool). found ++ cond b (first_of_each last rest) (n ∷ first_of_each (Some n.router) rest)) (sym is)

pub is_first : (found new : List Naming) (last : Option RouterId) (n : Naming) → is_of_last last n ≡ false → new ≡ found ++ n ∷ []
    → LeavesRest new (Some n.router) found last n
is_first found new last n is pushed = λ rest.
    ap (λ (l : List Naming). l ++ first_of_each (Some n.router) rest) pushed
    ∙ append_assoc found (n ∷ []) (first_of_each (Some n.router) rest)
    ∙ ap (λ (b : Bool). found ++ cond b (first_of_each last rest) (n ∷ first_of_each (Some n.router) rest)) (sym is)

-- one naming more
pub first_more : (found new : List Naming) (last next : Option RouterId) (all : List Naming) (i : ℕ) (d : Naming) (goal : List Naming)
    → i < length all → LeavesRest new next found last (get_or all i d) → found ++ first_of_each last (drop i all) ≡ goal
    → new ++ first_of_each next (drop (i + 1) all) ≡ goal
first_more found new last next all i d goal below leaves before =
    rw (add-one)
    (leaves (drop (suc i) all) ∙ ap (λ (l : List Naming). found ++ first_of_each last l) (sym (drop-cons all i d below)) ∙ before)

-- all namings
pub first_all : (found : List Naming) (last : Option RouterId) (all : List Naming) (i : ℕ) (goal : List Naming) → length all ≤ i
    → found ++ first_of_each last (drop i all) ≡ goal → found ≡ goal
first_all found last all i goal past before =
    sym (append-nil found) ∙ ap (λ (l : List Naming). found ++ first_of_each last l) (sym (drop_of_length-le all past)) ∙ before
