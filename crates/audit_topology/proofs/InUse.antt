-- The network of an LSA, by its type.
use Rattle.std.proofs.Common.{◌≡◌, ◌≢◌, ℕ, Bool, true, false, cond, eqb, eq-eqb, eqb-true, List, Option, None, ap, refl, sym}
use Rattle.lsa_codec.specs.Fields.{kind_of}
use Rattle.lsa_codec.specs.LsTypes.{network_lsa}
use Rattle.lsa_codec.specs.Views.{net_of_lsa}
use Rattle.audit_areas.specs.Areas.{AreaValue}
use Rattle.audit_topology.specs.Networks.{OfPrefix, address_of, network_if_in_use, network_in_use}

module _ (areas : List AreaValue) (area : AreaValue) (lsa : List ℕ) where
  abbrev its : Option OfPrefix
  its = network_if_in_use areas area (net_of_lsa lsa) (address_of lsa)

  pub of_network : kind_of lsa ≡ network_lsa → its ≡ network_in_use areas area lsa
  of_network is = ap (λ (b : Bool). cond b its None) (sym (eq-eqb (kind_of lsa) network_lsa is))

  pub of_other : kind_of lsa ≢ network_lsa → None ≡ network_in_use areas area lsa
  of_other other = by (eqb (kind_of lsa) network_lsa) refl
    where
      by : (b : Bool) → eqb (kind_of lsa) network_lsa ≡ b → None ≡ cond b its None
      by true is = absurd (other (eqb-true (kind_of lsa) network_lsa is))
      by false is = refl
