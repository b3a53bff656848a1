-- A database whose summary-LSAs have the metrics that they should have stays under a refresh, and there are no
-- changes.
use Rattle.std.proofs.Common.{◌≡◌, ℕ, Bool, true, false, cond, List, [], ◌∷◌, ◌++◌, map, Option, Some, None, Result, Ok, refl, ap, ◌∙◌}
use Rattle.std.specs.Prelude.{All}
use Rattle.std.proofs.lemmas.List.Elements.{All-cons, All-head, All-nil, All-tail, All-weaker}
use Rattle.lsa_codec.specs.declared.address.AreaId.{AreaId}
use Rattle.lsa_codec.specs.Areas.{is_backbone}
use Rattle.lsa_codec.specs.Originating.{with_metric}
use Rattle.lsdb.specs.Lists.{AreaHead, SectionLsas, Lists}
use Rattle.summary_metrics.specs.Refreshed.{AreSettled, IsSettled, id_of, is_stale, due_in, refreshed_lsa, refreshed_lsas, refreshed_section}
use Rattle.summary_metrics.specs.Refreshed.{refreshed}
use Rattle.edit_script.specs.declared.edit.Edit.TheVariants.{Refresh}
use Rattle.edit_history.specs.declared.fault.EditFault.{EditFault}
use Rattle.edit_history.specs.Rules.{Fate, stays, by_fates, Rule, Change, changes_by, lists_after}
use Rattle.edit_history.specs.Refreshing.{with_due, metric_fate, refresh_fates}
use Rattle.edit_history.specs.Effect.{rule_of, effect, changes, ◌>>=◌}
use Rattle.edit_history.proofs.RuleOutcomes.{Stays, none_change}
use Rattle.edit_history.proofs.RefreshFates.{refresh_after}

-- ---- the rule

pub refresh_ruled : (db : Lists) → rule_of db Refresh ≡ Ok (by_fates (refresh_fates db))
unfolding rule_of
refresh_ruled db = refl

pub refresh_leads : (db : Lists) → effect db Refresh ≡ Ok (refreshed db)
refresh_leads db =
    ap (λ (r : Result Rule EditFault). r >>= λ rule. Ok (lists_after rule db)) (refresh_ruled db)
    ∙ ap (λ (after : Lists). let r : Result Lists EditFault = Ok after in r) (refresh_after db)

-- ---- a settled database

-- a list of which each item stays as it is
each_stays : {X : Type 0} (f : X → X) (xs : List X) → All (λ x. f x ≡ x) xs → map f xs ≡ xs
each_stays f [] all = refl
each_stays {X} f (x ∷ xs) all =
    let P : X → Type 0 = λ y. f y ≡ y in
    let here = All-head P x xs all in
    let rest = each_stays f xs (All-tail P x xs all) in
    λ i. here i ∷ rest i

module _ (db : Lists) where
  fresh_lsas : (area : AreaId) (lsas : List (List ℕ)) → All (λ lsa. is_stale db area lsa ≡ false) lsas → map (refreshed_lsa db area) lsas ≡ lsas
  fresh_lsas area lsas all =
      each_stays (refreshed_lsa db area) lsas
      (All-weaker (λ lsa. is_stale db area lsa ≡ false) (λ lsa. refreshed_lsa db area lsa ≡ lsa)
      (λ lsa fresh. ap (λ b. cond b (with_metric (due_in db area lsa) lsa) lsa) fresh) lsas all)

  fresh_section : (head : Option AreaHead) (lsas : List (List ℕ)) → AreSettled db head lsas → refreshed_lsas db is_backbone head lsas ≡ lsas
  fresh_section None lsas fresh = refl
  fresh_section (Some head) lsas fresh = by_test (is_backbone (id_of head)) where
    by_test : (b : Bool) → cond b (map (refreshed_lsa db (id_of head)) lsas) lsas ≡ lsas
    by_test true = fresh_lsas (id_of head) lsas fresh
    by_test false = refl

  fresh_sections : (ss : Lists) → All (λ s. AreSettled db s.area s.lsas) ss → map (refreshed_section db is_backbone) ss ≡ ss
  fresh_sections ss all =
      each_stays (refreshed_section db is_backbone) ss
      (All-weaker (λ s. AreSettled db s.area s.lsas) (λ s. refreshed_section db is_backbone s ≡ s)
      (λ s fresh i. record { area = s.area; lsas = fresh_section s.area s.lsas fresh i }) ss all)

  -- an LSA that is not stale stays, in both passes
  fresh_stays : IsSettled db → (head : AreaHead) (lsa : List ℕ) → is_stale db (id_of head) lsa ≡ false → refresh_fates db (Some head) lsa ≡ stays
  fresh_stays settled head lsa fresh =
      ap (λ (after : Lists). let f : Fate = cond (is_backbone (id_of head)) (metric_fate db (id_of head) lsa) (metric_fate after (id_of head) lsa) in f)
      (fresh_sections db settled)
      ∙ by_test (is_backbone (id_of head))
      ∙ ap (λ b. with_due (cond b (Some (due_in db (id_of head) lsa)) None) lsa) fresh where
        by_test : (b : Bool) → cond b (metric_fate db (id_of head) lsa) (metric_fate db (id_of head) lsa) ≡ metric_fate db (id_of head) lsa
        by_test true = refl
        by_test false = refl

  all_stay : IsSettled db → (head : Option AreaHead) (lsas : List (List ℕ)) → AreSettled db head lsas → All (Stays (refresh_fates db) head) lsas
  all_stay settled None [] fresh = All-nil (Stays (refresh_fates db) None)
  all_stay settled None (lsa ∷ lsas) fresh = All-cons (Stays (refresh_fates db) None) lsa lsas refl (all_stay settled None lsas tt)
  all_stay settled (Some head) lsas fresh =
      All-weaker (λ lsa. is_stale db (id_of head) lsa ≡ false) (Stays (refresh_fates db) (Some head)) (fresh_stays settled head) lsas fresh

  none_reported : IsSettled db → (ss : Lists) → All (λ s. AreSettled db s.area s.lsas) ss → changes_by (by_fates (refresh_fates db)) ss ≡ []
  none_reported settled [] all = refl
  none_reported settled (s ∷ ss) all =
      let P : SectionLsas → Type 0 = λ t. AreSettled db t.area t.lsas in
      ap (λ (cs : List Change). cs ++ changes_by (by_fates (refresh_fates db)) ss)
      (none_change (refresh_fates db) s.area s.lsas (all_stay settled s.area s.lsas (All-head P s ss all)))
      ∙ none_reported settled ss (All-tail P s ss all)

  pub settled_reports_none : IsSettled db → changes db Refresh ≡ Ok []
  settled_reports_none settled =
      ap (λ (r : Result Rule EditFault). r >>= λ rule. Ok (changes_by rule db)) (refresh_ruled db)
      ∙ ap (λ (cs : List Change). let r : Result (List Change) EditFault = Ok cs in r) (none_reported settled db settled)

pub twice_leads : (db : Lists) → refreshed (refreshed db) ≡ refreshed db → effect (refreshed db) Refresh ≡ Ok (refreshed db)
twice_leads db same = refresh_leads (refreshed db) ∙ ap (λ (after : Lists). let r : Result Lists EditFault = Ok after in r) same
