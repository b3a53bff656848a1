-- What an area offers to a prefix: the ways of least cost, joined (RFC 2328, 16.1).
use Rattle.std.specs.Prelude.{List, None, map}
use Rattle.std.specs.List.Sorted.{IsStrictlySortedBy}
use Rattle.lsa_codec.specs.Prefix.{Net}
use Rattle.lsa_codec.specs.Order.{prefix_cmp}
use Rattle.best_ways.specs.declared.rank.PathType.TheVariants.{Intra}
use Rattle.best_ways.specs.Best.{ways_of}
use Rattle.best_ways.specs.Candidate.{Candidate}
use Rattle.area_routes.specs.Values.{OfferValue}
use Rattle.best_ways.specs.Values.{WayValue}

-- a way to a prefix, as a candidate for it
abbrev pub offer_candidate : OfferValue → Candidate Net
offer_candidate o = record { key = o.net; rank = record { path = Intra; cost2 = 0; class = 0; cost = o.cost }; area = None; hops = o.hops }

abbrev pub offer_of : Net × WayValue → OfferValue
offer_of e = record { net = e.0; cost = e.1.rank.cost; hops = e.1.hops }

-- to each prefix, in order, the ways of least cost, with their hops joined
abbrev pub best_offers : List OfferValue → List OfferValue
best_offers offers = map offer_of (ways_of prefix_cmp (map offer_candidate offers))

-- offers are in order of prefix, one for each
abbrev pub AreSortedOffers : List OfferValue → Type 0
AreSortedOffers offers = IsStrictlySortedBy prefix_cmp (map (λ o. o.net) offers)
