-- LSAs in order of their keys: by LS type, Link State ID and Advertising Router (RFC 2328, 12.1).
use Rattle.std.specs.Prelude.{ℕ, List, map, Option, option_and_then}
use Rattle.std.specs.List.{filter_map, find}
use Rattle.lsa_codec.specs.Key.{key_of}
use Rattle.lsa_codec.specs.Order.{key_cmp}
use Rattle.lsa_codec.specs.declared.key.Key.{Key}
use Rattle.lsdb.specs.Lists.{has_key}
use Rattle.area_graph.specs.Rising.{rising}

-- the keys of some LSAs, in order
abbrev pub keys_in_order : List (List ℕ) → List Key
keys_in_order lsas = rising key_cmp (map key_of lsas)

module _ {X : Type 0} (found_of : List ℕ → Option X) (lsas : List (List ℕ)) where
  -- what is found of the LSA with a key
  abbrev pub found_at : Key → Option X
  found_at key = option_and_then found_of (find (has_key key) lsas)

  -- what is found of each of some LSAs, in order of their keys
  abbrev pub found_in_order : List X
  found_in_order = filter_map found_at (keys_in_order lsas)
