-- The derived order of places is their order by scope and key.
use Rattle.std.proofs.Common.{◌≡◌, refl}
use Rattle.lsa_codec.specs.declared.key.Key.{Key}
use Rattle.lsa_instances.specs.declared.place.Place.{Place}
use Rattle.lsa_instances.specs.declared.place.Scope.{Scope}
use Rattle.lsa_instances.specs.declared.place.Scope.TheVariants.{Area, AsWide}
use Rattle.lsa_instances.specs.Order.{place_cmp}
use Rattle.capture_report.specs.steps.PlaceOrder.{derived_cmp}

abbrev made : Scope → Key → Place
made scope key = record { scope = scope; key = key }

same : (s t : Scope) (k l : Key) → derived_cmp (made s k) (made t l) ≡ place_cmp (made s k) (made t l)
same (Area a) (Area b) k l = refl
same (Area a) AsWide k l = refl
same AsWide (Area b) k l = refl
same AsWide AsWide k l = refl

at_places : (p q : Place) → derived_cmp p q ≡ place_cmp p q
at_places p q = same p.scope q.scope p.key q.key

pub same_cmp : derived_cmp ≡ place_cmp
same_cmp = λ i p q. at_places p q i
