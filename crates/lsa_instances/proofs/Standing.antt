-- What stands of flushed LSAs.
use Rattle.std.proofs.Common.{◌≡◌, List, Bool, true, false, refl}
use Rattle.std.specs.Prelude.{All}
use Rattle.std.specs.Ordering.{bool_cmp, is_gt, ordering_then}
use Rattle.std.specs.declared.cmp.Ordering.{Ordering}
use Rattle.std.proofs.lemmas.List.Elements.{All-weaker}
use Rattle.lsa_instances.specs.declared.keeping.FlushedLsas.TheVariants.{Kept, LeftOut}
use Rattle.lsa_instances.specs.declared.observation.Observation.{Observation}
use Rattle.lsa_instances.specs.Instance.{instance_cmp}
use Rattle.lsa_instances.specs.Order.{place_of}
use Rattle.lsa_instances.specs.Newest.{IsNewest, IsNoNewer, is_flushed}

both_live : (a b : Bool) (o : Ordering) → a ≡ false → b ≡ false → is_gt (ordering_then (bool_cmp a b) o) ≡ false → is_gt o ≡ false
both_live false false o h i g = g
both_live false true o h i g = cc
both_live true b o h i g = cc

module _ {A : Type 0} (reported : List (Observation A)) (x : Observation A) where
  abbrev IsOlder : Observation A → Type 0
  IsOlder y = place_of y ≡ place_of x → is_flushed reported y ≡ false → is_gt (instance_cmp y.lsa x.lsa) ≡ false

  pub left_out : IsNewest LeftOut reported x → (is_flushed reported x ≡ false) × All IsOlder reported
  left_out n = (
    n.lasting,
    All-weaker (IsNoNewer LeftOut reported x) IsOlder
        (λ y k e f. both_live (is_flushed reported x) (is_flushed reported y) _ n.lasting f (k e f)) reported n.unsurpassed,
  )

  pub same : IsNewest Kept reported x → is_flushed reported x ≡ false → IsNewest LeftOut reported x
  same n f = record {
    among_reported = n.among_reported;
    lasting = f;
    unsurpassed = All-weaker (IsNoNewer Kept reported x) (IsNoNewer LeftOut reported x) (λ y k e g. k e refl) reported n.unsurpassed;
  }
