-- The backbone summaries with one more LSA.
use Rattle.std.proofs.Common.{◌≡◌, Bool, true, false, cond, List, [], ◌∷◌, ◌++◌, map, Option, Some, None, refl, sym, ap, ◌∙◌, true≢false}
use Rattle.std.specs.Prelude.{ℕ, ◌&&◌, ◌==◌, if◌then◌else◌}
use Rattle.std.specs.List.{filter}
use Rattle.std.specs.Cmp.{Equal-is}
use Rattle.std.specs.Map.{lookup}
use Rattle.std.specs.Ordering.{eq_by_cmp}
use Rattle.std.specs.declared.cmp.Ordering.{Ordering}
use Rattle.std.proofs.lemmas.Bool.{eqb-true}
use Rattle.std.proofs.lemmas.List.{append-nil, map-append}
use Rattle.std.proofs.lemmas.List.Elements.{filter-append}
use Rattle.std.proofs.lemmas.Map.Lookups.{CmpEqualImpliesEq}
use Rattle.lsa_codec.specs.LsTypes.{asbr_summary_lsa, summary_lsa}
use Rattle.lsa_codec.specs.declared.address.RouterId.{RouterId}
use Rattle.lsa_codec.specs.Fields.{kind_of}
use Rattle.lsa_codec.specs.Order.{prefix_cmp, router_cmp}
use Rattle.lsa_codec.specs.Prefix.{Net}
use Rattle.lsa_codec.specs.Views.{net_of_lsa, net_of_summary}
use Rattle.lsa_codec.proofs.OrderLemmas.{prefix_exact, router_exact}
use Rattle.area_routes.specs.Inter.{named_router}
use Rattle.routing_table.proofs.MapLemmas.{Puts}
use Rattle.summary_metrics.specs.declared.sources.Source.{Source}
use Rattle.summary_metrics.specs.BackboneSummaries.{AreSources, AreAnnounced, BackboneSummariesValue, asbr_named, is_at, is_source, source_of, sources, sources_or_none}
use Rattle.summary_metrics.specs.steps.AnnouncedCosts.{more_sources}
use Rattle.summary_metrics.proofs.AnnouncedWays.{and_false}

-- an LSA without a source
pub not_announcing : (lsa : List ℕ) → None ≡ (if is_source lsa then Some (source_of lsa) else None) → is_source lsa ≡ false
not_announcing lsa h = by (is_source lsa) refl h
  where
    by : (b : Bool) → is_source lsa ≡ b → None ≡ (if b then Some (source_of lsa) else None) → is_source lsa ≡ false
    by true e k = absurd cc
    by false e k = e

-- an LSA with a source
pub announcing : (lsa : List ℕ) (source : Source) → Some source ≡ (if is_source lsa then Some (source_of lsa) else None)
    → (is_source lsa ≡ true) × (source ≡ source_of lsa)
announcing lsa source h = by (is_source lsa) refl h
  where
    by : (b : Bool) → is_source lsa ≡ b → Some source ≡ (if b then Some (source_of lsa) else None) → (is_source lsa ≡ true) × (source ≡ source_of lsa)
    by true e k = let is : source ≡ source_of lsa = cc in (e, is)
    by false e k = absurd cc

module _ {K : Type 0} (R : K → K → Ordering) (exact : CmpEqualImpliesEq R) where
  same_key : (a b : K) → eq_by_cmp R a b ≡ true → a ≡ b
  same_key a b h = exact a b ((Equal-is (R a b)).0 h)

  flip : (a b : K) → eq_by_cmp R a b ≡ eq_by_cmp R b a
  flip a b = by (eq_by_cmp R a b) (eq_by_cmp R b a) refl refl
    where
      swapped : a ≡ b → eq_by_cmp R a b ≡ eq_by_cmp R b a
      swapped e = λ i. eq_by_cmp R (e i) (sym e i)

      by : (x y : Bool) → eq_by_cmp R a b ≡ x → eq_by_cmp R b a ≡ y → x ≡ y
      by true true h k = refl
      by false false h k = refl
      by true false h k = sym h ∙ swapped (same_key a b h) ∙ k
      by false true h k = sym h ∙ swapped (sym (same_key b a k)) ∙ k

  module _ (key_of : List ℕ → Option K) (lsas : List (List ℕ)) (lsa : List ℕ) where
    -- the sources so far
    abbrev before : K → List Source
    before q = sources R key_of lsas q

    sources_more : (q : K) → sources R key_of (lsas ++ lsa ∷ []) q ≡ before q ++ cond (is_source lsa && is_at R q (key_of lsa)) (source_of lsa ∷ []) []
    sources_more q =
        ap (map source_of) (filter-append (λ l. is_source l && is_at R q (key_of l)) lsas (lsa ∷ []))
        ∙ map-append source_of (filter (λ l. is_source l && is_at R q (key_of l)) lsas) (cond (is_source lsa && is_at R q (key_of lsa)) (lsa ∷ []) [])
        ∙ ap (λ l. before q ++ l) (by (is_source lsa && is_at R q (key_of lsa)))
      where
        by : (b : Bool) → map source_of (cond b (lsa ∷ []) []) ≡ cond b (source_of lsa ∷ []) []
        by true = refl
        by false = refl

    -- an LSA without a source of that kind
    pub nothing_more : (entries : List (K × List Source)) → AreSources R key_of lsas entries
        → ((q : K) → (is_source lsa && is_at R q (key_of lsa)) ≡ false) → AreSources R key_of (lsas ++ lsa ∷ []) entries
    nothing_more entries all none q =
        all q ∙ sym (sources_more q ∙ ap (λ b. before q ++ cond b (source_of lsa ∷ []) []) (none q) ∙ append-nil (before q))

    -- one more source of a key
    pub source_more : (key : K) (source : Source) (old new : List (K × List Source)) → AreSources R key_of lsas old → is_source lsa ≡ true
        → key_of lsa ≡ Some key → source ≡ source_of lsa → Puts R old new key (more_sources (lookup (eq_by_cmp R key) old) source)
        → AreSources R key_of (lsas ++ lsa ∷ []) new
    source_more key source old new all announces of is puts q = by (eq_by_cmp R key q) refl (puts q) ∙ sym (sources_more q)
      where
        at : (b : Bool) → eq_by_cmp R key q ≡ b → (is_source lsa && is_at R q (key_of lsa)) ≡ b
        at b h = (λ i. announces i && is_at R q (of i)) ∙ flip q key ∙ h

        by : (b : Bool) → eq_by_cmp R key q ≡ b
            → lookup (eq_by_cmp R q) new ≡ cond b (Some (more_sources (lookup (eq_by_cmp R key) old) source)) (lookup (eq_by_cmp R q) old)
            → sources_or_none (lookup (eq_by_cmp R q) new) ≡ before q ++ cond (is_source lsa && is_at R q (key_of lsa)) (source_of lsa ∷ []) []
        by true h put =
            ap sources_or_none put ∙ ap (λ l. l ++ source ∷ []) (all key) ∙ (λ i. before (same_key key q h i) ++ is i ∷ [])
            ∙ sym (ap (λ b. before q ++ cond b (source_of lsa ∷ []) []) (at true h))
        by false h put =
            ap sources_or_none put ∙ all q ∙ sym (append-nil (before q)) ∙ sym (ap (λ b. before q ++ cond b (source_of lsa ∷ []) []) (at false h))

module _ (lsas : List (List ℕ)) (lsa : List ℕ) (summaries : BackboneSummariesValue) (all : AreAnnounced lsas summaries) where
  -- an LSA without a source
  pub announced_nothing : is_source lsa ≡ false → AreAnnounced (lsas ++ lsa ∷ []) summaries
  announced_nothing none = record {
    nets = nothing_more prefix_cmp prefix_exact net_of_summary lsas lsa summaries.nets all.nets (λ q. ap (λ b. b && is_at prefix_cmp q (net_of_summary lsa)) none);
    asbrs = nothing_more router_cmp router_exact asbr_named lsas lsa summaries.asbrs all.asbrs (λ q. ap (λ b. b && is_at router_cmp q (asbr_named lsa)) none);
  }

  no_asbr : (net : Net) → net_of_summary lsa ≡ Some net → asbr_named lsa ≡ None
  no_asbr net h = by (kind_of lsa == summary_lsa) (kind_of lsa == asbr_summary_lsa) refl refl h
    where
      by : (s a : Bool) → (kind_of lsa == summary_lsa) ≡ s → (kind_of lsa == asbr_summary_lsa) ≡ a → (if s then Some (net_of_lsa lsa) else None) ≡ Some net
          → (if a then Some (named_router lsa) else None) ≡ None
      by s false e f k = refl
      by false true e f k = absurd cc
      by true true e f k = absurd (true≢false (sym f ∙ ap (λ n. n == asbr_summary_lsa) (eqb-true (kind_of lsa) summary_lsa e)))

  -- a summary-LSA of type 3
  pub net_more : (net : Net) (source : Source) (new : List (Net × List Source)) → is_source lsa ≡ true → net_of_summary lsa ≡ Some net
      → source ≡ source_of lsa → Puts prefix_cmp summaries.nets new net (more_sources (lookup (eq_by_cmp prefix_cmp net) summaries.nets) source)
      → AreAnnounced (lsas ++ lsa ∷ []) (record { nets = new; asbrs = summaries.asbrs })
  net_more net source new announces of is puts = record {
    nets = source_more prefix_cmp prefix_exact net_of_summary lsas lsa net source summaries.nets new all.nets announces of is puts;
    asbrs =
        nothing_more router_cmp router_exact asbr_named lsas lsa summaries.asbrs all.asbrs
        (λ q. ap (λ o. is_source lsa && is_at router_cmp q o) (no_asbr net of) ∙ and_false (is_source lsa));
  }

  -- an LSA that is not of type 3
  nets_stay : net_of_summary lsa ≡ None → AreSources prefix_cmp net_of_summary (lsas ++ lsa ∷ []) summaries.nets
  nets_stay none = nothing_more prefix_cmp prefix_exact net_of_summary lsas lsa summaries.nets all.nets
      (λ q. ap (λ o. is_source lsa && is_at prefix_cmp q o) none ∙ and_false (is_source lsa))

  -- a summary-LSA of type 4
  pub asbr_more : (asbr : RouterId) (source : Source) (new : List (RouterId × List Source)) → is_source lsa ≡ true → net_of_summary lsa ≡ None
      → asbr_named lsa ≡ Some asbr → source ≡ source_of lsa
      → Puts router_cmp summaries.asbrs new asbr (more_sources (lookup (eq_by_cmp router_cmp asbr) summaries.asbrs) source)
      → AreAnnounced (lsas ++ lsa ∷ []) (record { nets = summaries.nets; asbrs = new })
  asbr_more asbr source new announces none of is puts = record {
    nets = nets_stay none;
    asbrs = source_more router_cmp router_exact asbr_named lsas lsa asbr source summaries.asbrs new all.asbrs announces of is puts;
  }

  -- an LSA of neither type
  pub announced_neither : net_of_summary lsa ≡ None → asbr_named lsa ≡ None → AreAnnounced (lsas ++ lsa ∷ []) summaries
  announced_neither none no_name = record {
    nets = nets_stay none;
    asbrs =
        nothing_more router_cmp router_exact asbr_named lsas lsa summaries.asbrs all.asbrs
        (λ q. ap (λ o. is_source lsa && is_at router_cmp q o) no_name ∙ and_false (is_source lsa));
  }
