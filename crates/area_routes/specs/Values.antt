-- Router entries and results of areas, as contracts see them (RFC 2328, 11 and 16.1).
use Rattle.std.specs.Prelude.{ℕ, ◌<◌, List, All}
use Rattle.lsa_codec.specs.declared.address.AreaId.{AreaId}
use Rattle.lsa_codec.specs.declared.address.RouterId.{RouterId}
use Rattle.lsa_codec.specs.Prefix.{Net}
use Rattle.next_hops.specs.declared.hop.Hop.{Hop}
use Rattle.best_ways.specs.Values.{RouteValue}
use Rattle.area_routes.specs.declared.entry.EntryKind.{EntryKind}

-- a way to a router through an area
pub record EntryValue : Type 0 where
  pub router : RouterId
  pub area : AreaId
  pub kind : EntryKind
  pub cost : ℕ
  pub hops : List Hop

-- a way to a prefix within one area
pub record OfferValue : Type 0 where
  pub net : Net
  pub cost : ℕ
  pub hops : List Hop

-- the result of an area: ways to prefixes, and the entries of its area border routers and AS boundary
-- routers
pub record AreaResultValue : Type 0 where
  pub area : AreaId
  pub offers : List OfferValue
  pub entries : List EntryValue

-- inter-area routes, and all router entries
pub record InterValue : Type 0 where
  pub routes : List RouteValue
  pub routers : List EntryValue

-- all costs are below a bound
abbrev pub EntriesBelow : ℕ → List EntryValue → Type 0
EntriesBelow bound entries = All (λ e. e.cost < bound) entries

abbrev pub OffersBelow : ℕ → List OfferValue → Type 0
OffersBelow bound offers = All (λ o. o.cost < bound) offers

pub record ResultBelow (bound : ℕ) (result : AreaResultValue) : Type 0 where
  pub offers : OffersBelow bound result.offers
  pub entries : EntriesBelow bound result.entries
