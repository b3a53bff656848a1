-- The LSA of a router's key is a router-LSA.
use Rattle.std.proofs.Common.{◌≡◌, ◌≢◌, ℕ, Bool, true, false, cond, List, [], ◌∷◌, Option, Some, None, refl, ap, ◌∙◌, sym}
use Rattle.std.specs.List.{find}
use Rattle.std.specs.Prelude.{MatchOption}
use Rattle.std.proofs.lemmas.Bool.{and_parts, eqb-true}
use Rattle.lsa_codec.specs.Accepted.{IsAccepted}
use Rattle.lsa_codec.specs.declared.address.Addr.{Addr}
use Rattle.lsa_codec.specs.declared.address.RouterId.{RouterId}
use Rattle.lsa_codec.specs.declared.key.Key.{Key}
use Rattle.lsa_codec.specs.Fields.{kind_of}
use Rattle.lsa_codec.specs.Key.{key_of, router_key}
use Rattle.lsa_codec.specs.LsTypes.{network_lsa, router_lsa}
use Rattle.lsdb.specs.Lists.{has_key, is_network}
use Rattle.lsdb.proofs.KeyLemmas.{same_key_true}
use Rattle.interfaces.specs.Networks.{network_lsa_in}

-- what is found passes the test
pub found_passes : {X : Type 0} (p : X → Bool) (xs : List X) (x : X) → find p xs ≡ Some x → p x ≡ true
found_passes p [] x e = absurd cc
found_passes p (y ∷ ys) x e = by (p y) refl (found_passes p ys x) e where
  by : (b : Bool) → p y ≡ b → (find p ys ≡ Some x → p x ≡ true) → cond b (Some y) (find p ys) ≡ Some x → p x ≡ true
  by true is later e = let same : y ≡ x = cc in ap p (sym same) ∙ is
  by false is later e = later e

pub is_router_lsa : (router : RouterId) (lsas : List (List ℕ)) (lsa : List ℕ) → find (has_key (router_key router)) lsas ≡ Some lsa
    → kind_of lsa ≡ router_lsa
is_router_lsa router lsas lsa found =
    ap (λ (k : Key). k.kind) (same_key_true (key_of lsa) (router_key router) (found_passes (has_key (router_key router)) lsas lsa found))

-- what a slot holds is what was found
pub held_is : {X : Type 0} (at : Option (Option X)) (found : Option X) (x : X) → at ≡ Some found → at ≡ Some (Some x) → found ≡ Some x
held_is at found x slot here = cc

-- a router-LSA has a view
pub viewed_router : (view : Option (List ℕ)) (lsa : List ℕ)
    → MatchOption view (kind_of lsa ≢ router_lsa) (λ v. (v ≡ lsa) × (kind_of lsa ≡ router_lsa) × IsAccepted lsa)
    → kind_of lsa ≡ router_lsa → view ≡ Some lsa
viewed_router None lsa h is = absurd (h is)
viewed_router (Some v) lsa h is = ap Some h.0

-- a network-LSA has a view
pub viewed_network : (view : Option (List ℕ)) (lsa : List ℕ)
    → MatchOption view (kind_of lsa ≢ network_lsa) (λ v. (v ≡ lsa) × (kind_of lsa ≡ network_lsa))
    → kind_of lsa ≡ network_lsa → view ≡ Some lsa
viewed_network None lsa h is = absurd (h is)
viewed_network (Some v) lsa h is = ap Some h.0

-- what is found as the network-LSA of a network is a network-LSA
pub is_network_lsa : (used : List (List ℕ)) (network : Addr) (lsa : List ℕ) → network_lsa_in used network ≡ Some lsa → kind_of lsa ≡ network_lsa
is_network_lsa used network lsa found = eqb-true _ _ (and_parts _ _ (found_passes (is_network network) used lsa found)).0
