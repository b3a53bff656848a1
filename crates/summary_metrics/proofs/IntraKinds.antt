-- Intra-area routes are of that type.
use Rattle.std.proofs.Common.{◌≡◌, List, [], ◌∷◌, map, refl}
use Rattle.std.specs.List.{All, flat_map}
use Rattle.std.proofs.lemmas.List.Elements.{All-append, All-cons, All-map, All-nil}
use Rattle.lsa_codec.specs.Order.{prefix_cmp}
use Rattle.lsa_codec.specs.Prefix.{Net}
use Rattle.best_ways.specs.declared.rank.PathType.TheVariants.{Intra}
use Rattle.best_ways.specs.Best.{ways_of}
use Rattle.best_ways.specs.Candidate.{Candidate}
use Rattle.area_routes.specs.Intra.{intra_candidate, intra_candidates, intra_of}
use Rattle.best_ways.specs.Routes.{route_of}
use Rattle.area_routes.specs.Values.{AreaResultValue, OfferValue}
use Rattle.best_ways.proofs.WayLemmas.{ways_have}

all_of_area : (r : AreaResultValue) (os : List OfferValue) → All (λ c. c.rank.path ≡ Intra) (map (intra_candidate r.area) os)
all_of_area r [] = All-nil (λ (c : Candidate Net). c.rank.path ≡ Intra)
all_of_area r (o ∷ os) =
    All-cons (λ (c : Candidate Net). c.rank.path ≡ Intra) (intra_candidate r.area o) (map (intra_candidate r.area) os) refl (all_of_area r os)

all_of_areas : (results : List AreaResultValue) → All (λ c. c.rank.path ≡ Intra) (flat_map intra_candidates results)
all_of_areas [] = All-nil (λ (c : Candidate Net). c.rank.path ≡ Intra)
all_of_areas (r ∷ results) =
    All-append (λ (c : Candidate Net). c.rank.path ≡ Intra) (intra_candidates r) (flat_map intra_candidates results) (all_of_area r r.offers)
    (all_of_areas results)

pub all_intra : (results : List AreaResultValue) → All (λ r. r.kind ≡ Intra) (intra_of results)
unfolding intra_of
all_intra results =
    let cs : List (Candidate Net) = flat_map intra_candidates results in
    All-map (λ r. r.kind ≡ Intra) route_of (ways_of prefix_cmp cs) (ways_have (λ r. r.path ≡ Intra) prefix_cmp cs (all_of_areas results))
