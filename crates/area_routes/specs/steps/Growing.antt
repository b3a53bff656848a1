-- The result of an area, with more added.
use Rattle.std.specs.Prelude.{List, ◌++◌, map}
use Rattle.lsa_codec.specs.Prefix.{Net}
use Rattle.best_ways.specs.Candidate.{Candidate}
use Rattle.area_routes.specs.Offers.{offer_candidate}
use Rattle.area_routes.specs.Values.{AreaResultValue, EntryValue, OfferValue}

-- candidates, and those of more ways to prefixes
abbrev pub with_offers : List (Candidate Net) → List OfferValue → List (Candidate Net)
with_offers cs more = cs ++ map offer_candidate more

-- the result of an area, with more entries
abbrev pub with_entries : AreaResultValue → List EntryValue → AreaResultValue
with_entries r more = record { area = r.area; offers = r.offers; entries = r.entries ++ more }
