-- The orders of steps and of LSAs are total, and distinguish all values.
use Rattle.std.proofs.Common.{◌≡◌, Bool, true, false, Option, None, Some, refl, ap}
use Rattle.std.specs.Cmp.{IsTotalOrder}
use Rattle.std.specs.Option.{option_cmp}
use Rattle.std.specs.Ordering.{bool_cmp, nat_cmp, ordering_reverse, ordering_then}
use Rattle.std.specs.declared.cmp.Ordering.{Ordering}
use Rattle.std.specs.declared.cmp.Ordering.TheVariants.{Less, Equal}
use Rattle.std.proofs.lemmas.Cmp.{nat_cmp_total, on_total, then_total}
use Rattle.std.proofs.lemmas.Map.Lookups.{CmpEqualImpliesEq, exact_unsigned}
use Rattle.lsa_codec.specs.declared.address.Addr.{Addr}
use Rattle.lsa_codec.specs.Order.{area_cmp, key_cmp, prefix_cmp, router_cmp}
use Rattle.lsa_codec.proofs.OrderLemmas.{area_exact, area_total, key_exact, key_total, prefix_exact, prefix_total, router_exact, router_total, then_both}
use Rattle.explanation.specs.declared.rest.Rest.{Rest}
use Rattle.explanation.specs.declared.way_step.WayStep.{WayStep}

-- ---- truth values

bool_antisymm : (x y : Bool) → bool_cmp x y ≡ ordering_reverse (bool_cmp y x)
bool_antisymm false false = refl
bool_antisymm false true = refl
bool_antisymm true false = refl
bool_antisymm true true = refl

bool_trans : (x y z : Bool) → bool_cmp x y ≡ Less → bool_cmp y z ≡ Less → bool_cmp x z ≡ Less
bool_trans false false z h g = absurd (cc)
bool_trans false true false h g = absurd (cc)
bool_trans false true true h g = absurd (cc)
bool_trans true false z h g = absurd (cc)
bool_trans true true z h g = absurd (cc)

bool_congr : (x y z : Bool) → bool_cmp x y ≡ Equal → bool_cmp x z ≡ bool_cmp y z
bool_congr false false z h = refl
bool_congr false true z h = absurd (cc)
bool_congr true false z h = absurd (cc)
bool_congr true true z h = refl

bool_total : IsTotalOrder bool_cmp
bool_total = record { antisymm = bool_antisymm; trans = bool_trans; congr = bool_congr }

bool_exact : CmpEqualImpliesEq bool_cmp
bool_exact false false h = refl
bool_exact false true h = absurd (cc)
bool_exact true false h = absurd (cc)
bool_exact true true h = refl

-- ---- what may be missing

module _ {K : Type 0} {R : K → K → Ordering} (o : IsTotalOrder R) where
  some_antisymm : (x y : Option K) → option_cmp R x y ≡ ordering_reverse (option_cmp R y x)
  some_antisymm None None = refl
  some_antisymm None (Some y) = refl
  some_antisymm (Some x) None = refl
  some_antisymm (Some x) (Some y) = o.antisymm x y

  some_trans : (x y z : Option K) → option_cmp R x y ≡ Less → option_cmp R y z ≡ Less → option_cmp R x z ≡ Less
  some_trans None None z h g = absurd (cc)
  some_trans None (Some y) None h g = absurd (cc)
  some_trans None (Some y) (Some z) h g = refl
  some_trans (Some x) None z h g = absurd (cc)
  some_trans (Some x) (Some y) None h g = absurd (cc)
  some_trans (Some x) (Some y) (Some z) h g = o.trans x y z h g

  some_congr : (x y z : Option K) → option_cmp R x y ≡ Equal → option_cmp R x z ≡ option_cmp R y z
  some_congr None None z h = refl
  some_congr None (Some y) z h = absurd (cc)
  some_congr (Some x) None z h = absurd (cc)
  some_congr (Some x) (Some y) None h = refl
  some_congr (Some x) (Some y) (Some z) h = o.congr x y z h

  some_total : IsTotalOrder (option_cmp R)
  some_total = record { antisymm = some_antisymm; trans = some_trans; congr = some_congr }

some_exact : {K : Type 0} {R : K → K → Ordering} → CmpEqualImpliesEq R → CmpEqualImpliesEq (option_cmp R)
some_exact exact None None h = refl
some_exact exact None (Some y) h = absurd (cc)
some_exact exact (Some x) None h = absurd (cc)
some_exact {K} exact (Some x) (Some y) h = ap (λ (k : K). Some k) (exact x y h)

-- ---- addresses

abbrev addr_cmp : Addr → Addr → Ordering
addr_cmp a b = nat_cmp a.0 b.0

addr_total : IsTotalOrder addr_cmp
addr_total = on_total (λ (a : Addr). a.0) nat_cmp_total

addr_exact : CmpEqualImpliesEq addr_cmp
addr_exact a b h = ap (λ n. record { 0 = n }) (exact_unsigned a.0 b.0 h)

-- ---- LSAs

abbrev pub rest_cmp : Rest → Rest → Ordering
rest_cmp a b =
    ordering_then (bool_cmp a.is_as_wide b.is_as_wide)
    (ordering_then (area_cmp a.area b.area) (ordering_then (key_cmp a.key b.key) (option_cmp prefix_cmp a.net b.net)))

pub rest_total : IsTotalOrder rest_cmp
rest_total =
    then_total (on_total (λ (r : Rest). r.is_as_wide) bool_total)
    (then_total (on_total (λ (r : Rest). r.area) area_total)
    (then_total (on_total (λ (r : Rest). r.key) key_total) (on_total (λ (r : Rest). r.net) (some_total prefix_total))))

pub rest_exact : CmpEqualImpliesEq rest_cmp
rest_exact a b h =
    let scopes = then_both (bool_cmp a.is_as_wide b.is_as_wide) _ h in
    let areas = then_both (area_cmp a.area b.area) _ scopes.1 in
    let keys = then_both (key_cmp a.key b.key) (option_cmp prefix_cmp a.net b.net) areas.1 in
    λ i. record {
      is_as_wide = bool_exact a.is_as_wide b.is_as_wide scopes.0 i;
      area = area_exact a.area b.area areas.0 i;
      key = key_exact a.key b.key keys.0 i;
      net = some_exact prefix_exact a.net b.net keys.1 i;
    }

-- ---- steps

abbrev pub step_cmp : WayStep → WayStep → Ordering
step_cmp a b =
    ordering_then (area_cmp a.area b.area)
    (ordering_then (nat_cmp a.distance b.distance)
    (ordering_then (router_cmp a.router b.router)
    (ordering_then (bool_cmp a.is_network b.is_network)
    (ordering_then (addr_cmp a.end b.end)
    (ordering_then (addr_cmp a.out b.out)
    (ordering_then (option_cmp addr_cmp a.over b.over) (ordering_then (nat_cmp a.cost b.cost) (nat_cmp a.sum b.sum))))))))

pub step_total : IsTotalOrder step_cmp
step_total =
    then_total (on_total (λ (s : WayStep). s.area) area_total)
    (then_total (on_total (λ (s : WayStep). s.distance) nat_cmp_total)
    (then_total (on_total (λ (s : WayStep). s.router) router_total)
    (then_total (on_total (λ (s : WayStep). s.is_network) bool_total)
    (then_total (on_total (λ (s : WayStep). s.end) addr_total)
    (then_total (on_total (λ (s : WayStep). s.out) addr_total)
    (then_total (on_total (λ (s : WayStep). s.over) (some_total addr_total))
    (then_total (on_total (λ (s : WayStep). s.cost) nat_cmp_total) (on_total (λ (s : WayStep). s.sum) nat_cmp_total))))))))

pub step_exact : CmpEqualImpliesEq step_cmp
step_exact a b h =
    let areas = then_both (area_cmp a.area b.area) _ h in
    let distances = then_both (nat_cmp a.distance b.distance) _ areas.1 in
    let routers = then_both (router_cmp a.router b.router) _ distances.1 in
    let kinds = then_both (bool_cmp a.is_network b.is_network) _ routers.1 in
    let ends = then_both (addr_cmp a.end b.end) _ kinds.1 in
    let outs = then_both (addr_cmp a.out b.out) _ ends.1 in
    let overs = then_both (option_cmp addr_cmp a.over b.over) _ outs.1 in
    let costs = then_both (nat_cmp a.cost b.cost) (nat_cmp a.sum b.sum) overs.1 in
    λ i. record {
      area = area_exact a.area b.area areas.0 i;
      distance = exact_unsigned a.distance b.distance distances.0 i;
      router = router_exact a.router b.router routers.0 i;
      is_network = bool_exact a.is_network b.is_network kinds.0 i;
      end = addr_exact a.end b.end ends.0 i;
      out = addr_exact a.out b.out outs.0 i;
      over = some_exact addr_exact a.over b.over overs.0 i;
      cost = exact_unsigned a.cost b.cost costs.0 i;
      sum = exact_unsigned a.sum b.sum costs.1 i;
    }
