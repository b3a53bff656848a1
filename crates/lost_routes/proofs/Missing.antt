-- Prefixes that a test keeps, in a set.
use Rattle.std.proofs.Common.{◌≡◌, Bool, true, List, [], ◌∷◌, cond, refl, sym, ap}
use Rattle.std.specs.List.{filter}
use Rattle.std.proofs.lemmas.List.Elements.{filter-append}
use Rattle.lsa_codec.specs.Prefix.{Net}
use Rattle.area_routes.proofs.AddsLemmas.{Adds}
use Rattle.lost_routes.specs.Gathering.{Gathers}
use Rattle.lost_routes.proofs.GatheredLemmas.{gathers_same}

module _ (p : Net → Bool) where
  pub filter_adds : Adds (filter p) (λ net. filter p (net ∷ []))
  filter_adds = record { none = refl; push = λ nets net. filter-append p nets (net ∷ []) }

  module _ (net : Net) where
    kept : (b : Bool) → p net ≡ b → cond b (net ∷ []) [] ≡ filter p (net ∷ [])
    kept b is = sym (ap (λ (t : Bool). cond t (net ∷ []) []) is)

    pub gathers_kept : (old new : List Net) → p net ≡ true → Gathers (net ∷ []) old new → Gathers (filter p (net ∷ [])) old new
    gathers_kept old new is from = gathers_same (net ∷ []) (filter p (net ∷ [])) old new (kept true is) from
