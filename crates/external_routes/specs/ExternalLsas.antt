-- The AS-external-LSAs in use (RFC 2328, 16.4 and A.4.5).
use Rattle.std.specs.Prelude.{ℕ, ◌&&◌, ◌==◌, List, Bool, if◌then◌else◌, Option, None, Some, IfSome, IsPermutation, nat_lt}
use Rattle.std.specs.List.{filter_map}
use Rattle.lsa_codec.specs.LsTypes.{external_lsa as external_type}
use Rattle.lsa_codec.specs.Fields.{kind_of}
use Rattle.lsa_codec.specs.Views.{forward_of, is_type2_of, metric_of, net_of_lsa, ls_infinity}
use Rattle.area_graph.specs.Area.{is_live}
use Rattle.area_routes.specs.Inter.{originator_of}
use Rattle.external_routes.specs.declared.external_lsas.ExternalLsa.{ExternalLsa}

-- an AS-external-LSA in use: it is live, and its metric is below LSInfinity
abbrev pub is_in_use : List ℕ → Bool
is_in_use lsa = (kind_of lsa == external_type) && (is_live lsa && nat_lt (metric_of lsa) ls_infinity)

-- the route of an AS-external-LSA in use; none for other LSAs
abbrev pub external_lsa : List ℕ → Option ExternalLsa
external_lsa lsa =
    if is_in_use lsa then
    Some (record {
      net = net_of_lsa lsa;
      router = originator_of lsa;
      is_type2 = is_type2_of lsa;
      metric = metric_of lsa;
      forward = record { 0 = forward_of lsa };
    })
    else None

-- these are the AS-external-LSAs in use among some LSAs, in some order
abbrev pub AreExternalLsasOf : List (List ℕ) → List ExternalLsa → Type 0
AreExternalLsasOf lsas found = IsPermutation (filter_map external_lsa lsas) found

-- these are the AS-external-LSAs in use among some LSAs, or there is no list
abbrev pub AreListedOf : List (List ℕ) → Option (List ExternalLsa) → Type 0
AreListedOf lsas listed = IfSome listed (AreExternalLsasOf lsas)
