use Rattle.std.proofs.Common.{◌≡◌, Bool, true, List, Decides, refl, sym, ap, ◌∙◌}
use Rattle.std.specs.Cmp.{Equal-is}
use Rattle.std.specs.Cmp.Lexicographic.{pointwise}
use Rattle.std.specs.Ordering.{eq_by_cmp, is_eq}
use Rattle.std.proofs.lemmas.Bool.Decides.{same_from_decides}
use Rattle.std.proofs.lemmas.Cmp.{tied_itself}
use Rattle.std.proofs.lemmas.Slice.Eq.{slice_eq-Decides}
use Rattle.next_hops.specs.Hop.{hop_cmp}
use Rattle.next_hops.specs.declared.hop.Hop.{Hop}
use Rattle.next_hops.proofs.HopLemmas.{hop_cmp_total, same_hop}
use Rattle.audit_routes.proofs.same_route.same_hops.Goals as goal

-- a test that finds hops equal exactly where they are the same
by_order : (a b : Hop) → Decides (eq_by_cmp hop_cmp a b) (a ≡ b)
by_order a b = (λ h. same_hop a b ((Equal-is (hop_cmp a b)).0 h), λ e. ap (λ h. is_eq (hop_cmp a h)) (sym e) ∙ ap is_eq (tied_itself hop_cmp_total a))

one_answer : (E : Hop → Hop → Bool) → ((g h : Hop) → E g h ≡ true → g ≡ h) → ((h : Hop) → E h h ≡ true)
    → (xs ys : List Hop) (r : Bool) → r ≡ pointwise E xs ys → r ≡ pointwise (eq_by_cmp hop_cmp) xs ys
one_answer E exact itself xs ys r is =
    same_from_decides {P = xs ≡ ys} r (pointwise (eq_by_cmp hop_cmp) xs ys)
    (slice_eq-Decides (λ g h. (exact g h, λ e. ap (E g) (sym e) ∙ itself g)) xs ys r is)
    (slice_eq-Decides by_order xs ys (pointwise (eq_by_cmp hop_cmp) xs ys) refl)

pub returns : goal.returns
returns c = one_answer _ c.hop_equality.ensures c.hops_equal_themselves.ensures c.args.hops.now c.args.others.now c.eq.result c.eq.ensures
