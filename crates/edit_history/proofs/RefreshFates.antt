-- The summary-LSAs get the metrics that they should have: the fates are safe, and they leave the refreshed
-- database.
use Rattle.std.proofs.Common.{◌≡◌, ℕ, Bool, true, false, cond, List, [], ◌∷◌, map, Option, Some, None, refl, ap, ◌∙◌}
use Rattle.std.specs.Prelude.{◌==◌, ◌||◌, not}
use Rattle.std.specs.List.{filter_map, cons_option}
use Rattle.lsa_codec.specs.declared.address.AreaId.{AreaId}
use Rattle.lsa_codec.specs.Accepted.{IsAccepted}
use Rattle.lsa_codec.specs.Areas.{is_backbone}
use Rattle.lsa_codec.specs.Fields.{kind_of}
use Rattle.lsa_codec.specs.Originating.{with_metric}
use Rattle.lsa_codec.specs.Views.{has_metric}
use Rattle.lsa_codec.proofs.LsaLemmas.{metric_rewritten}
use Rattle.lsdb.specs.Lists.{AreaHead, Lists}
use Rattle.summary_metrics.specs.Refreshed.{id_of, is_stale, due_in, refreshed_lsa, refreshed_lsas, refreshed_section, refreshed_areas}
use Rattle.summary_metrics.specs.Refreshed.{is_not_backbone, refreshed}
use Rattle.summary_metrics.proofs.StaleLemmas.{stale_summary}
use Rattle.edit_history.specs.Rules.{Fate, stays, by_fates, outcome, lists_after}
use Rattle.edit_history.specs.Refreshing.{with_due, metric_fate, pass_fates, refresh_fates}
use Rattle.edit_history.proofs.FatesBySlot.{IsSafeFate, IsSafe}

-- ---- they are safe

metric_of_kind : (a b c : Bool) → (a || b) ≡ true → ((a || b) || c) ≡ true
metric_of_kind true b c is = refl
metric_of_kind false true c is = refl
metric_of_kind false false c is = absurd cc

-- a stale LSA has a metric
pub stale_has_metric : (db : Lists) (area : AreaId) (lsa : List ℕ) → is_stale db area lsa ≡ true → has_metric (kind_of lsa) ≡ true
stale_has_metric db area lsa stale =
    metric_of_kind (kind_of lsa == 3) (kind_of lsa == 4) (kind_of lsa == 5) (stale_summary db area lsa stale)

pub metric_safe : (db : Lists) (area : AreaId) (lsa : List ℕ) → IsAccepted lsa → IsSafeFate lsa (metric_fate db area lsa)
metric_safe db area lsa accepted = by_test (is_stale db area lsa) refl where
  by_test : (b : Bool) → is_stale db area lsa ≡ b → IsSafeFate lsa (with_due (cond b (Some (due_in db area lsa)) None) lsa)
  by_test true stale = metric_rewritten (due_in db area lsa) lsa accepted (stale_has_metric db area lsa stale)
  by_test false stale = tt

safe_either : (lsa : List ℕ) (b : Bool) (f g : Fate) → IsSafeFate lsa f → IsSafeFate lsa g → IsSafeFate lsa (cond b f g)
safe_either lsa true f g one two = one
safe_either lsa false f g one two = two

pub pass_safe : (chosen : AreaId → Bool) (db : Lists) → IsSafe (pass_fates chosen db)
pass_safe chosen db None lsa accepted = tt
pass_safe chosen db (Some head) lsa accepted =
    safe_either lsa (chosen (id_of head)) (metric_fate db (id_of head) lsa) stays (metric_safe db (id_of head) lsa accepted) tt

pub refresh_safe : (db : Lists) → IsSafe (refresh_fates db)
refresh_safe db None lsa accepted = tt
refresh_safe db (Some head) lsa accepted =
    safe_either lsa (is_backbone (id_of head)) (metric_fate db (id_of head) lsa) (metric_fate (refreshed_areas is_backbone db) (id_of head) lsa)
    (metric_safe db (id_of head) lsa accepted) (metric_safe (refreshed_areas is_backbone db) (id_of head) lsa accepted)

-- ---- what they leave

-- the LSAs that fates leave
abbrev left_by : (List ℕ → Fate) → List (List ℕ) → List (List ℕ)
left_by fate lsas = filter_map (λ lsa. outcome (fate lsa) lsa) lsas

metric_left : (db : Lists) (area : AreaId) (lsa : List ℕ) → outcome (metric_fate db area lsa) lsa ≡ Some (refreshed_lsa db area lsa)
metric_left db area lsa = by_test (is_stale db area lsa) where
  by_test : (b : Bool)
      → outcome (with_due (cond b (Some (due_in db area lsa)) None) lsa) lsa ≡ Some (cond b (with_metric (due_in db area lsa) lsa) lsa)
  by_test true = refl
  by_test false = refl

metrics_left : (db : Lists) (area : AreaId) (lsas : List (List ℕ)) → left_by (metric_fate db area) lsas ≡ map (refreshed_lsa db area) lsas
metrics_left db area [] = refl
metrics_left db area (lsa ∷ lsas) =
    ap (λ (o : Option (List ℕ)). cons_option o (left_by (metric_fate db area) lsas)) (metric_left db area lsa)
    ∙ ap (λ (rest : List (List ℕ)). refreshed_lsa db area lsa ∷ rest) (metrics_left db area lsas)

all_left : (lsas : List (List ℕ)) → left_by (λ lsa. stays) lsas ≡ lsas
all_left [] = refl
all_left (lsa ∷ lsas) = ap (λ (rest : List (List ℕ)). lsa ∷ rest) (all_left lsas)

-- a section after one pass
pass_left : (chosen : AreaId → Bool) (db : Lists) (head : Option AreaHead) (lsas : List (List ℕ))
    → left_by (pass_fates chosen db head) lsas ≡ refreshed_lsas db chosen head lsas
pass_left chosen db None lsas = all_left lsas
pass_left chosen db (Some head) lsas = by_test (chosen (id_of head)) where
  by_test : (b : Bool) → left_by (λ lsa. cond b (metric_fate db (id_of head) lsa) stays) lsas ≡ cond b (map (refreshed_lsa db (id_of head)) lsas) lsas
  by_test true = metrics_left db (id_of head) lsas
  by_test false = all_left lsas

-- a section after both
both_left : (db : Lists) (head : Option AreaHead) (lsas : List (List ℕ))
    → left_by (refresh_fates db head) lsas
    ≡ refreshed_lsas (refreshed_areas is_backbone db) is_not_backbone head (refreshed_lsas db is_backbone head lsas)
both_left db None lsas = all_left lsas
both_left db (Some head) lsas = by_test (is_backbone (id_of head)) where
  by_test : (b : Bool)
      → left_by (λ lsa. cond b (metric_fate db (id_of head) lsa) (metric_fate (refreshed_areas is_backbone db) (id_of head) lsa)) lsas
      ≡ cond (not b) (map (refreshed_lsa (refreshed_areas is_backbone db) (id_of head)) (cond b (map (refreshed_lsa db (id_of head)) lsas) lsas))
      (cond b (map (refreshed_lsa db (id_of head)) lsas) lsas)
  by_test true = metrics_left db (id_of head) lsas
  by_test false = metrics_left (refreshed_areas is_backbone db) (id_of head) lsas

pub pass_after : (chosen : AreaId → Bool) (db ss : Lists) → lists_after (by_fates (pass_fates chosen db)) ss ≡ map (refreshed_section db chosen) ss
pass_after chosen db [] = refl
pass_after chosen db (s ∷ ss) =
    let here = pass_left chosen db s.area s.lsas in
    let rest = pass_after chosen db ss in
    λ i. record { area = s.area; lsas = here i } ∷ rest i

both_after : (db ss : Lists) → lists_after (by_fates (refresh_fates db)) ss
    ≡ map (refreshed_section (refreshed_areas is_backbone db) is_not_backbone) (map (refreshed_section db is_backbone) ss)
both_after db [] = refl
both_after db (s ∷ ss) =
    let here = both_left db s.area s.lsas in
    let rest = both_after db ss in
    λ i. record { area = s.area; lsas = here i } ∷ rest i

-- the refreshed database
pub refresh_after : (db : Lists) → lists_after (by_fates (refresh_fates db)) db ≡ refreshed db
refresh_after db = both_after db db
