-- Which hops stay as they are where the path goes on.
use Rattle.std.proofs.Common.{◌≡◌, ℕ, ◌<◌, List, length, get_or, refl, sym, ◌∙◌, subst, arith, ⊎_elim}
use Rattle.std.specs.List.{AllWithin, Contains}
use Rattle.std.specs.Ordering.{nat_cmp, ordering_then}
use Rattle.std.specs.declared.cmp.Ordering.{Ordering}
use Rattle.std.specs.declared.cmp.Ordering.TheVariants.{Less, Equal, Greater}
use Rattle.std.proofs.lemmas.Bool.{cases_eq, cases_lt}
use Rattle.std.proofs.lemmas.Cmp.{ranked}
use Rattle.std.proofs.lemmas.List.Elements.{All-contains}
use Rattle.lsa_codec.specs.declared.address.Addr.{Addr}
use Rattle.next_hops.specs.declared.hop.Hop.{Hop}
use Rattle.next_hops.specs.declared.hop.Hop.TheVariants.{Connected, Link, Attached, Gateway}
use Rattle.next_hops.specs.Hop.{hop_cmp, IsSortedHops}
use Rattle.next_hops.specs.steps.Passing.{IsExtended}
use Rattle.next_hops.specs.steps.Table.{StayAsTheyAre, StaysAsItIs}

-- the first of all hops of networks of the router itself
abbrev pub first_attached : Hop
first_attached = Attached (record { 0 = 0 })

none_below : (n : ℕ) (o : Ordering) → nat_cmp n 0 ≡ o → ordering_then o Equal ≡ Less → ⊥
none_below n Less is less = let low : n < 0 = ranked n 0 Less (sym is) in omega arith
none_below n Equal is less = cc
none_below n Greater is less = cc

below_stays : (h : Hop) → hop_cmp h first_attached ≡ Less → StaysAsItIs h
below_stays Connected below a = refl
below_stays (Link d) below a = refl
below_stays (Attached d) below a = absurd (none_below d.0 (nat_cmp d.0 0) refl below)
below_stays (Gateway d b) below a = refl

-- after a hop that stays and that comes after the first of these networks
later_stays : (g h : Hop) → hop_cmp g first_attached ≡ Greater → StaysAsItIs g → hop_cmp g h ≡ Less → StaysAsItIs h
later_stays Connected h above stays before a = absurd (cc)
later_stays (Link d) h above stays before a = absurd (cc)
later_stays (Attached d) h above stays before a = absurd (let same = stays (record { 0 = 0 }) in cc)
later_stays (Gateway d b) Connected above stays before a = refl
later_stays (Gateway d b) (Link e) above stays before a = refl
later_stays (Gateway d b) (Attached e) above stays before a = absurd (cc)
later_stays (Gateway d b) (Gateway e c) above stays before a = refl

-- where the hop at the place of the first of these networks stays, all do
pub StayAsTheyAre-searched : (hops : List Hop) (place : ℕ) → IsSortedHops hops
    → AllWithin (λ y. hop_cmp y first_attached ≡ Less) hops 0 place
    → AllWithin (λ y. hop_cmp y first_attached ≡ Greater) hops place (length hops)
    → ((d : Hop) → place < length hops → StaysAsItIs (get_or hops place d)) → StayAsTheyAre hops
StayAsTheyAre-searched hops place sorted below above stays k d within =
    ⊎_elim
    (λ lt. below_stays (get_or hops k d) (below k d (omega arith) lt))
    (λ le. ⊎_elim
    (λ same. subst (λ (n : ℕ). StaysAsItIs (get_or hops n d)) (sym same) (stays d (omega arith)))
    (λ other. later_stays (get_or hops place d) (get_or hops k d) (above place d (omega arith) (omega arith)) (stays d (omega arith))
    (sorted place k d (omega arith) within))
    (cases_eq k place))
    (cases_lt k place)

-- hops that stay are the same over one more edge
pub IsExtended-stays : (hops : List Hop) (a : Addr) (h : Hop) → StayAsTheyAre hops → Contains hops h → IsExtended hops a h
IsExtended-stays hops a h stay there = (h, there, All-contains StaysAsItIs hops h stay there a)

pub stays-IsExtended : (hops : List Hop) (a : Addr) (h : Hop) → StayAsTheyAre hops → IsExtended hops a h → Contains hops h
stays-IsExtended hops a h stay (g, there, is) = subst (λ (x : Hop). Contains hops x) (sym (All-contains StaysAsItIs hops g stay there a) ∙ is) there
