-- The newest of observations are those of the same observations in another order, each any number of times.
use Rattle.std.proofs.Common.{◌≡◌, ◌∙◌, refl, sym, ap, List}
use Rattle.std.specs.Prelude.{Contains}
use Rattle.std.specs.Ordering.{bool_cmp, is_gt, ordering_then}
use Rattle.std.proofs.lemmas.List.Elements.{All-contains, All-weaker}
use Rattle.lsa_instances.specs.declared.keeping.FlushedLsas.{FlushedLsas}
use Rattle.lsa_instances.specs.declared.keeping.FlushedLsas.TheVariants.{Kept, LeftOut}
use Rattle.lsa_instances.specs.declared.observation.Observation.{Observation}
use Rattle.lsa_instances.specs.Instance.{instance_cmp}
use Rattle.lsa_instances.specs.Newest.{AreNewest, AreSame, IsCovered, IsNewest, IsNoNewer, flushes, is_flushed, is_left_out, standing_cmp}
use Rattle.lsa_instances.proofs.SameLemmas.{all_of, any_same}

module _ {A : Type 0} (reported other : List (Observation A)) (h : AreSame reported other) where
  alike : (x : Observation A) → is_flushed reported x ≡ is_flushed other x
  alike x = any_same (λ f. flushes f x) reported other h

  left_alike : (flushed : FlushedLsas) (x : Observation A) → is_left_out flushed reported x ≡ is_left_out flushed other x
  left_alike LeftOut x = alike x
  left_alike Kept x = refl

  standing_alike : (x y : Observation A) → standing_cmp other x y ≡ standing_cmp reported x y
  standing_alike x y =
      ap (λ v. ordering_then (bool_cmp v (is_flushed other x)) (instance_cmp x.lsa y.lsa)) (sym (alike y))
      ∙ ap (λ v. ordering_then (bool_cmp (is_flushed reported y) v) (instance_cmp x.lsa y.lsa)) (sym (alike x))

  module _ (flushed : FlushedLsas) where
    newest_too : (x : Observation A) → IsNewest flushed reported x → IsNewest flushed other x
    newest_too x n = record {
      among_reported = All-contains (Contains other) reported x h.0 n.among_reported;
      lasting = sym (left_alike flushed x) ∙ n.lasting;
      unsurpassed = All-weaker (IsNoNewer flushed reported x) (IsNoNewer flushed other x)
          (λ y k p f. ap is_gt (standing_alike y x) ∙ k p (left_alike flushed y ∙ f)) other
          (all_of reported other (IsNoNewer flushed reported x) h.1 n.unsurpassed);
    }

    pub reordered : (newest : List (Observation A)) → AreNewest flushed reported newest → AreNewest flushed other newest
    reordered newest n =
        let P : Observation A → Type 0 = IsCovered flushed reported newest in
        let Q : Observation A → Type 0 = IsCovered flushed other newest in
        record {
          each = All-weaker (IsNewest flushed reported) (IsNewest flushed other) newest_too newest n.each;
          whole = All-weaker P Q (λ y k f. k (left_alike flushed y ∙ f)) other (all_of reported other P h.1 n.whole);
          order = n.order;
        }
