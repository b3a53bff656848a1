-- What is found by its key.
use Rattle.std.proofs.Common.{◌≡◌, ◌≢◌, ℕ, Bool, true, false, cond, List, [], ◌∷◌, Option, Some, None, refl, sym, ap, ◌∙◌, inl, inr}
use Rattle.std.specs.List.{find}
use Rattle.std.specs.Prelude.{MatchOption}
use Rattle.lsa_codec.specs.Accepted.{IsAccepted}
use Rattle.std.proofs.lemmas.Option.{cond_some}
use Rattle.lsa_codec.specs.declared.address.AreaId.{AreaId}
use Rattle.lsa_codec.specs.declared.address.RouterId.{RouterId}
use Rattle.lsa_codec.specs.declared.key.Key.{Key}
use Rattle.lsa_codec.specs.Fields.{kind_of}
use Rattle.lsa_codec.specs.Key.{key_of, router_key}
use Rattle.lsa_codec.specs.LsTypes.{router_lsa}
use Rattle.lsdb.specs.declared.section.Section.TheVariants.{Area}
use Rattle.lsdb.specs.Lists.{Lists, has_key, lsas_of}
use Rattle.lsdb.proofs.KeyLemmas.{same_key_true}
use Rattle.area_graph.specs.Area.{is_live}
use Rattle.area_graph.proofs.MemberLemmas.{In}
use Rattle.interfaces.specs.Routers.{live_or_none, router_lsa_of}

pub find-In : {X : Type 0} (p : X → Bool) (xs : List X) (x : X) → find p xs ≡ Some x → In xs x × (p x ≡ true)
find-In p [] x e = absurd cc
find-In p (y ∷ ys) x e = by (p y) refl (find-In p ys x) e where
  by : (b : Bool) → p y ≡ b → (find p ys ≡ Some x → In ys x × (p x ≡ true)) → cond b (Some y) (find p ys) ≡ Some x
      → In (y ∷ ys) x × (p x ≡ true)
  by true is later e = let same : y ≡ x = cc in (inl same, ap p (sym same) ∙ is)
  by false is later e = let r = later e in (inr r.0, r.1)

pub live-Some : (o : Option (List ℕ)) (lsa : List ℕ) → live_or_none o ≡ Some lsa → (o ≡ Some lsa) × (is_live lsa ≡ true)
live-Some None lsa e = absurd cc
live-Some (Some x) lsa e =
    let parts = cond_some (is_live x) x lsa e in (ap Some parts.1, ap is_live (sym parts.1) ∙ parts.0)

-- the LSA of a router's key is a router-LSA
pub kind_by_key : (router : RouterId) (lsas : List (List ℕ)) (lsa : List ℕ) → find (has_key (router_key router)) lsas ≡ Some lsa
    → kind_of lsa ≡ router_lsa
kind_by_key router lsas lsa found =
    ap (λ (k : Key). k.kind)
    (same_key_true (key_of lsa) (router_key router) (find-In (has_key (router_key router)) lsas lsa found).1)

pub kind_of_router_lsa : (db : Lists) (area : AreaId) (router : RouterId) (lsa : List ℕ) → router_lsa_of db area router ≡ Some lsa
    → kind_of lsa ≡ router_lsa
kind_of_router_lsa db area router lsa e =
    kind_by_key router (lsas_of (Area area) db) lsa
    (live-Some (find (has_key (router_key router)) (lsas_of (Area area) db)) lsa e).0

-- a router-LSA has a view
pub viewed : (view : Option (List ℕ)) (lsa : List ℕ)
    → MatchOption view (kind_of lsa ≢ router_lsa) (λ v. (v ≡ lsa) × (kind_of lsa ≡ router_lsa) × IsAccepted lsa) → kind_of lsa ≡ router_lsa
    → view ≡ Some lsa
viewed None lsa h kind = absurd (h kind)
viewed (Some v) lsa h kind = ap Some h.0
