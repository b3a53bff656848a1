-- The interfaces of the links from one on.
use Rattle.std.proofs.Common.{◌≡◌, ℕ, suc, ◌+◌, ◌-◌, ◌<◌, ◌≤◌, List, [], ◌∷◌, ◌++◌, length, get_or, take, drop, Option, refl, ap, sym, ◌∙◌, add-one, append_assoc, arith, length-drop}
use Rattle.std.proofs.lemmas.List.{append-nil, take_all}
use Rattle.std.proofs.Math.ListN.{drop_of_length-le}
use Rattle.std.proofs.Math.Seq.{drop-cons}
use Rattle.lsa_codec.specs.declared.link.Link.{Link}
use Rattle.interfaces.specs.declared.interface.Interface.{Interface}
use Rattle.interfaces.specs.Interfaces.{interfaces_from, stub_after}

-- a link with those after it
abbrev pub first_of : Link → List Link → Interface
first_of link links = record { link = link; stub = stub_after link links }

cons_from : (link : Link) (links : List Link) → interfaces_from (link ∷ links) ≡ first_of link links ∷ interfaces_from links
unfolding interfaces_from
cons_from link links = refl

pub from-drop : (links : List Link) (i : ℕ) (d : Link) → i < length links
    → interfaces_from (drop i links) ≡ first_of (get_or links i d) (drop (i + 1) links) ∷ interfaces_from (drop (i + 1) links)
from-drop links i d below =
    rw (add-one) (ap interfaces_from (drop-cons links i d below) ∙ cons_from (get_or links i d) (drop (suc i) links))

-- all that follows an item of a list
after : (links : List Link) (n : ℕ) → take (length links - n) (drop n links) ≡ drop n links
after links n = take_all (length links - n) (drop n links) (omega (arith, length-drop n links))

-- one more is found
pub found_more : (found : List Interface) (links : List Link) (i : ℕ) (d : Link) (stub : Option Link) → i < length links
    → stub ≡ stub_after (get_or links i d) (take (length links - (i + 1)) (drop (i + 1) links))
    → found ++ interfaces_from (drop i links) ≡ interfaces_from links
    → (found ++ record { link = get_or links i d; stub = stub } ∷ []) ++ interfaces_from (drop (i + 1) links) ≡ interfaces_from links
found_more found links i d stub below is before =
    let link = get_or links i d in
    let rest = drop (i + 1) links in
    append_assoc found (record { link = link; stub = stub } ∷ []) (interfaces_from rest)
    ∙ ap (λ (o : Option Link). found ++ record { link = link; stub = o } ∷ interfaces_from rest)
    (is ∙ ap (stub_after link) (after links (i + 1)))
    ∙ ap (λ (xs : List Interface). found ++ xs) (sym (from-drop links i d below)) ∙ before

-- all are found
pub found_all : (found : List Interface) (links : List Link) (i : ℕ) → length links ≤ i
    → found ++ interfaces_from (drop i links) ≡ interfaces_from links → found ≡ interfaces_from links
unfolding interfaces_from
found_all found links i past before =
    sym (append-nil found) ∙ ap (λ rest. found ++ interfaces_from rest) (sym (drop_of_length-le links past)) ∙ before
