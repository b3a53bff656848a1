-- Where no AS-external-LSA in use has a forwarding address, none is unreached.
use Rattle.std.proofs.Common.{◌≡◌, ◌∙◌, ℕ, Bool, true, false, cond, List, [], ◌∷◌, Option, None, Some, refl, ap}
use Rattle.std.specs.Prelude.{is_some, not, option_and_then}
use Rattle.std.specs.Option.{option_map_or}
use Rattle.std.specs.List.{cons_option, filter_map, find, list_any}
use Rattle.std.proofs.lemmas.Bool.{or_parts}
use Rattle.lsa_codec.specs.Prefix.{Net}
use Rattle.lsa_codec.specs.declared.address.Addr.{Addr}
use Rattle.lsa_codec.specs.declared.key.Key.{Key}
use Rattle.lsdb.specs.Lists.{has_key}
use Rattle.lsa_names.specs.LsaNames.{lsa_name}
use Rattle.audit_places.specs.Places.{PlaceValue, at_lsa}
use Rattle.audit_routes.specs.ForwardUnreached.{any_covers, forwarded_to, is_forwarded, unreached_place}
use Rattle.audit_routes.specs.InOrder.{found_at, found_in_order, keys_in_order}

module _ (nets : List Net) where
  not_forwarded : (lsa : List ℕ) → is_forwarded lsa ≡ false → unreached_place nets lsa ≡ None
  not_forwarded lsa none = by (forwarded_to lsa) none
    where
      by : (o : Option Addr) → is_some o ≡ false
          → cond (option_map_or (λ addr. not (any_covers nets addr)) o false) (Some (at_lsa (lsa_name None lsa))) None ≡ None
      by None h = refl
      by (Some addr) h = absurd cc

  none_at : (key : Key) (lsas : List (List ℕ)) → list_any is_forwarded lsas ≡ false
      → option_and_then (unreached_place nets) (find (has_key key) lsas) ≡ None
  none_at key [] none = refl
  none_at key (lsa ∷ lsas) none =
      let parts = or_parts (is_forwarded lsa) (list_any is_forwarded lsas) none in
      by (has_key key lsa) (not_forwarded lsa parts.0) (none_at key lsas parts.1)
    where
      by : (b : Bool) → unreached_place nets lsa ≡ None → option_and_then (unreached_place nets) (find (has_key key) lsas) ≡ None
          → option_and_then (unreached_place nets) (cond b (Some lsa) (find (has_key key) lsas)) ≡ None
      by true here rest = here
      by false here rest = rest

  none_among : (lsas : List (List ℕ)) (keys : List Key) → list_any is_forwarded lsas ≡ false
      → filter_map (found_at (unreached_place nets) lsas) keys ≡ []
  none_among lsas [] none = refl
  none_among lsas (key ∷ keys) none =
      ap (λ (o : Option PlaceValue). cons_option o (filter_map (found_at (unreached_place nets) lsas) keys)) (none_at key lsas none)
      ∙ none_among lsas keys none

  pub none_unreached : (lsas : List (List ℕ)) → list_any is_forwarded lsas ≡ false
      → found_in_order (unreached_place nets) lsas ≡ []
  none_unreached lsas none = none_among lsas (keys_in_order lsas) none
