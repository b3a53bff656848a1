-- The routers that an LSA lists, by its type.
use Rattle.std.proofs.Common.{◌≡◌, ◌≢◌, ℕ, Bool, true, false, cond, eqb, eq-eqb, eqb-true, List, [], ap, refl, sym}
use Rattle.lsa_codec.specs.Fields.{kind_of}
use Rattle.lsa_codec.specs.LsTypes.{network_lsa}
use Rattle.audit_areas.specs.Areas.{AreaValue}
use Rattle.audit_links.specs.OneWay.{listed_alone, listed_by}

pub listed_where : (area : AreaValue) (lsa : List ℕ) → kind_of lsa ≡ network_lsa → listed_by area lsa ≡ listed_alone area lsa
listed_where area lsa is = ap (λ (b : Bool). cond b (listed_by area lsa) []) (sym (eq-eqb (kind_of lsa) network_lsa is))

pub listed_nowhere : (area : AreaValue) (lsa : List ℕ) → kind_of lsa ≢ network_lsa → [] ≡ listed_alone area lsa
listed_nowhere area lsa other = by (eqb (kind_of lsa) network_lsa) refl
  where
    by : (b : Bool) → eqb (kind_of lsa) network_lsa ≡ b → [] ≡ cond b (listed_by area lsa) []
    by true is = absurd (other (eqb-true (kind_of lsa) network_lsa is))
    by false is = refl
