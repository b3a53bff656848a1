-- Observations that are accepted LSAs of the scope of their type.
use Rattle.std.proofs.Common.{◌≡◌, false, List}
use Rattle.std.specs.Prelude.{All}
use Rattle.std.specs.List.{list_any}
use Rattle.std.proofs.lemmas.List.Elements.{All-weaker}
use Rattle.std.proofs.lemmas.List.Folds.{list_any_none}
use Rattle.lsa_codec.specs.Accepted.{IsAccepted}
use Rattle.lsa_instances.specs.declared.observation.Observation.{Observation}
use Rattle.lsdb_merge.specs.Limits.{is_misplaced}

pub record IsPlaced {A : Type 0} (x : Observation A) : Type 0 where
  pub placed : is_misplaced x ≡ false
  pub accepted : IsAccepted x.lsa

pub all_placed : {A : Type 0} (xs : List (Observation A)) → All IsPlaced xs → list_any is_misplaced xs ≡ false
all_placed xs h = list_any_none is_misplaced xs (All-weaker IsPlaced (λ x. is_misplaced x ≡ false) (λ x s. s.placed) xs h)

pub all_accepted : {A : Type 0} (xs : List (Observation A)) → All IsPlaced xs → All (λ x. IsAccepted x.lsa) xs
all_accepted xs h = All-weaker IsPlaced (λ x. IsAccepted x.lsa) (λ x s. s.accepted) xs h
