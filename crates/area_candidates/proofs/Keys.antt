-- LSAs that were found by their keys.
use Rattle.std.proofs.Common.{◌≡◌, ℕ, Bool, true, false, cond, List, [], ◌∷◌, Some, refl, ap, ◌∙◌, sym}
use Rattle.std.specs.List.{find}
use Rattle.lsa_codec.specs.declared.key.Key.{Key}
use Rattle.lsa_codec.specs.Fields.{kind_of}
use Rattle.lsa_codec.specs.Key.{key_of}
use Rattle.lsdb.specs.Lists.{has_key}
use Rattle.lsdb.proofs.KeyLemmas.{same_key_true}
use Rattle.area_graph.proofs.MemberLemmas.{Some-same}

-- the LSA that is found has the key
pub found_key : (key : Key) (lsas : List (List ℕ)) (lsa : List ℕ) → find (has_key key) lsas ≡ Some lsa → key_of lsa ≡ key
found_key key [] lsa found = absurd (cc)
found_key key (x ∷ xs) lsa found = at_first (λ h. found_key key xs lsa h) (has_key key x) refl found
  where
    at_first : (find (has_key key) xs ≡ Some lsa → key_of lsa ≡ key) → (b : Bool) → has_key key x ≡ b
        → cond b (Some x) (find (has_key key) xs) ≡ Some lsa → key_of lsa ≡ key
    at_first later true is h = ap key_of (sym (Some-same h)) ∙ same_key_true (key_of x) key is
    at_first later false is h = later h

-- and so it is of the key's type
pub found_kind : (key : Key) (lsas : List (List ℕ)) (lsa : List ℕ) → find (has_key key) lsas ≡ Some lsa → kind_of lsa ≡ key.kind
found_kind key lsas lsa found = ap (λ (k : Key). k.kind) (found_key key lsas lsa found)
