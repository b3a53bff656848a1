use Rattle.std.proofs.Common.{◌≡◌, ◌∙◌, Bool, true, false, ◌&&◌, nat_eq, refl, ap}
use Rattle.std.proofs.lemmas.Bool.{false≢true, eqb-true}
use Rattle.lsa_codec.specs.declared.address.Addr.{Addr}
use Rattle.next_hops.specs.declared.hop.Hop.TheVariants.{Connected, Link, Attached, Gateway}
use Rattle.next_hops.proofs.HopOrder.{same_addr}
use Rattle.next_hops.proofs.laws.hop_equality.Goals as goal

first_part : (a b : Bool) → (a && b) ≡ true → a ≡ true
first_part true b h = refl
first_part false b h = absurd (false≢true h)

second_part : (a b : Bool) → (a && b) ≡ true → b ≡ true
second_part true b h = h
second_part false b h = absurd (false≢true h)

pub returns : goal.returns
returns c Connected Connected h = refl
returns c Connected (Link e) h = absurd (false≢true h)
returns c Connected (Attached e) h = absurd (false≢true h)
returns c Connected (Gateway e b) h = absurd (false≢true h)
returns c (Link d) Connected h = absurd (false≢true h)
returns c (Link d) (Link e) h = ap (λ (x : Addr). Link x) (same_addr d e (eqb-true d.0 e.0 h))
returns c (Link d) (Attached e) h = absurd (false≢true h)
returns c (Link d) (Gateway e b) h = absurd (false≢true h)
returns c (Attached d) Connected h = absurd (false≢true h)
returns c (Attached d) (Link e) h = absurd (false≢true h)
returns c (Attached d) (Attached e) h = ap (λ (x : Addr). Attached x) (same_addr d e (eqb-true d.0 e.0 h))
returns c (Attached d) (Gateway e b) h = absurd (false≢true h)
returns c (Gateway d a) Connected h = absurd (false≢true h)
returns c (Gateway d a) (Link e) h = absurd (false≢true h)
returns c (Gateway d a) (Attached e) h = absurd (false≢true h)
returns c (Gateway d a) (Gateway e b) h =
    let same_interface = eqb-true d.0 e.0 (first_part (nat_eq d.0 e.0) (nat_eq a.0 b.0) h) in
    let same_gateway = eqb-true a.0 b.0 (second_part (nat_eq d.0 e.0) (nat_eq a.0 b.0) h) in
    ap (λ (x : Addr). Gateway x a) (same_addr d e same_interface) ∙ ap (λ (x : Addr). Gateway e x) (same_addr a b same_gateway)
