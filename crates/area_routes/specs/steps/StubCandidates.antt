-- What stub links offer, by the distances and the hops of an area's vertices.
use Rattle.std.specs.Prelude.{ℕ, ◌+◌, ◌==◌, if◌then◌else◌, List, [], ◌∷◌, Option, None, slice_index_or}
use Rattle.std.specs.List.{filter_map}
use Rattle.std.specs.Option.{option_map}
use Rattle.lsa_codec.specs.declared.address.RouterId.{RouterId}
use Rattle.next_hops.specs.declared.hop.Hop.{Hop}
use Rattle.next_hops.specs.declared.hop.Hop.TheVariants.{Connected}
use Rattle.next_hops.specs.FirstHops.{hops_at}
use Rattle.area_routes.specs.declared.stub_links.StubLink.{StubLink}
use Rattle.area_routes.specs.Values.{OfferValue}

-- the hops to a stub network: those of its router, or `Connected` alone where that is the calculating
-- router
abbrev pub hops_over : RouterId → List (List Hop) → StubLink → List Hop
hops_over root hops link = if link.router.0 == root.0 then Connected ∷ [] else hops_at hops link.vertex

-- the offer of a stub link whose router has a distance
abbrev pub offer_over : RouterId → List (Option ℕ) → List (List Hop) → StubLink → Option OfferValue
offer_over root distances hops link =
    option_map (λ d. record { net = link.net; cost = d + link.metric; hops = hops_over root hops link }) (slice_index_or distances link.vertex None)

-- the offers of stub links
abbrev pub offers_over : RouterId → List (Option ℕ) → List (List Hop) → List StubLink → List OfferValue
offers_over root distances hops links = filter_map (offer_over root distances hops) links
