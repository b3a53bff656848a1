-- The lengths of prefixes, marked one route after another.
use Rattle.std.proofs.Common.{◌≡◌, ℕ, ◌+◌, ◌<◌, ◌≤◌, Bool, true, false, List, length, get_or, set, take, sym, subst, ◌∙◌, arith, ⊎_elim}
use Rattle.std.proofs.Math.ListN.{length-set}
use Rattle.std.proofs.lemmas.Bool.{cases_eq}
use Rattle.std.proofs.lemmas.List.{get_or-set_other, get_or-set_same, take_all, take_more}
use Rattle.std.proofs.lemmas.List.Elements.{All-push}
use Rattle.best_ways.specs.Values.{RouteValue}
use Rattle.external_routes.specs.steps.Lookup.{IsMarked, MarksLengths}

still : (marks : List Bool) (n m : ℕ) → n < length marks → get_or marks m false ≡ true → get_or (set marks n true) m false ≡ true
still marks n m within h =
    ⊎_elim
    (λ same. subst (λ (k : ℕ). get_or (set marks n true) k false ≡ true) same (get_or-set_same marks n true false within))
    (λ other. get_or-set_other marks n m true false (λ e. other (sym e)) ∙ h)
    (cases_eq n m)

-- one more route
pub marks_more : (routes : List RouteValue) (marks : List Bool) (i : ℕ) (r : RouteValue) → length marks ≡ 33
    → MarksLengths (take i routes) marks → i < length routes → r ≡ get_or routes i r → r.net.len ≤ 32
    → (length (set marks r.net.len true) ≡ 33) × MarksLengths (take (i + 1) routes) (set marks r.net.len true)
marks_more routes marks i r size before within item short =
    let low : r.net.len < length marks = omega arith in
    let here : IsMarked (set marks r.net.len true) r = record { short = short; marked = get_or-set_same marks r.net.len true false low } in
    let others : MarksLengths (take i routes) (set marks r.net.len true) =
    λ k d lt. (let m : IsMarked marks (get_or (take i routes) k d) = before k d lt in
    record { short = m.short; marked = still marks r.net.len (get_or (take i routes) k d).net.len low m.marked }) in (
      length-set marks r.net.len true ∙ size,
      subst (λ (rs : List RouteValue). MarksLengths rs (set marks r.net.len true)) (sym (take_more routes i r within))
          (All-push (IsMarked (set marks r.net.len true)) (take i routes) (get_or routes i r) others
          (subst (λ (x : RouteValue). IsMarked (set marks r.net.len true) x) item here)),
    )

pub marks_all : (routes : List RouteValue) (marks : List Bool) (i : ℕ) → length routes ≤ i → MarksLengths (take i routes) marks → MarksLengths routes marks
marks_all routes marks i past all = subst (λ (rs : List RouteValue). MarksLengths rs marks) (take_all i routes past) all
