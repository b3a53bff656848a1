-- An LSA with another metric has the same destination as before.
use Rattle.std.proofs.Common.{◌≡◌, ℕ, ◌<◌, ◌^◌, Bool, true, false, cond, List, Some, None, refl, ap}
use Rattle.std.specs.Prelude.{◌==◌, ◌&&◌, ◌||◌, not, nat_le, bit_and}
use Rattle.std.specs.Option.{option_and_then, option_map_or, option_or}
use Rattle.lsa_codec.specs.declared.address.AreaId.{AreaId}
use Rattle.lsa_codec.specs.declared.key.Key.{Key}
use Rattle.lsa_codec.specs.Accepted.{IsAccepted}
use Rattle.lsa_codec.specs.Fields.{kind_of}
use Rattle.lsa_codec.specs.LsTypes.{asbr_summary_lsa, external_lsa, summary_lsa}
use Rattle.lsa_codec.specs.Making.{IsRewriteOf}
use Rattle.lsa_codec.specs.Originating.{with_metric, HasOtherMetric}
use Rattle.lsa_codec.specs.Views.{has_metric, ls_infinity, net_of_summary}
use Rattle.lsa_codec.proofs.LsaLemmas.{metric_fields, metric_rewritten}
use Rattle.lsdb.specs.Lists.{Lists}
use Rattle.area_graph.specs.Area.{is_live}
use Rattle.area_routes.specs.Inter.{is_summary, named_router, originator_of}
use Rattle.external_routes.specs.Summaries.{borders, cost_of_asbr, cost_of_net, is_covered, is_stub_area, is_stub_default, metric_for}
use Rattle.summary_metrics.specs.Refreshed.{due_in, entries_inside, routes_inside}

-- the two differ in their metrics and checksums at most
pub record IsReannounced (lsa new : List ℕ) : Type 0 where
  pub kind : kind_of new ≡ kind_of lsa
  pub live : is_live new ≡ is_live lsa
  pub originator : originator_of new ≡ originator_of lsa
  pub named : named_router new ≡ named_router lsa
  pub net : net_of_summary new ≡ net_of_summary lsa

pub reannounced_same : (lsa : List ℕ) → IsReannounced lsa lsa
reannounced_same lsa = record { kind = refl; live = refl; originator = refl; named = refl; net = refl }

has_a_metric : (lsa : List ℕ) → is_summary lsa ≡ true → has_metric (kind_of lsa) ≡ true
has_a_metric lsa h = by (kind_of lsa == summary_lsa) (kind_of lsa == asbr_summary_lsa) (kind_of lsa == external_lsa) h
  where
    by : (b c d : Bool) → (b || c) ≡ true → (b || c || d) ≡ true
    by true c d h = refl
    by false true d h = refl
    by false false d h = absurd cc

module _ (metric : ℕ) (lsa : List ℕ) (old : IsAccepted lsa) (summary : is_summary lsa ≡ true) where
  rewrite : IsRewriteOf lsa (with_metric metric lsa)
  rewrite = metric_rewritten metric lsa old (has_a_metric lsa summary)

  pub metric_accepted : IsAccepted (with_metric metric lsa)
  metric_accepted = rewrite.accepted

  module _ (small : metric < 2 ^ 24) where
    pub other_metric : HasOtherMetric metric lsa (with_metric metric lsa)
    other_metric = metric_fields metric lsa old (has_a_metric lsa summary) small

    pub reannounced : IsReannounced lsa (with_metric metric lsa)
    reannounced = record {
      kind = ap (λ (k : Key). k.kind) rewrite.key;
      live = ap (λ a. not (nat_le 3600 (bit_and a 0x7fff))) other_metric.age;
      originator = ap (λ (k : Key). k.adv) rewrite.key;
      named = ap (λ (k : Key). record { 0 = k.id.0 }) rewrite.key;
      net = λ i. cond ((rewrite.key i).kind == summary_lsa) (Some (other_metric.net i)) None;
    }

module _ (lsa new : List ℕ) (announced : IsReannounced lsa new) (db : Lists) (area : AreaId) where
  pub summary_reannounced : is_summary new ≡ is_summary lsa
  summary_reannounced = ap (λ k. (k == summary_lsa) || (k == asbr_summary_lsa)) announced.kind

  pub covered_reannounced : is_covered db area new ≡ is_covered db area lsa
  covered_reannounced = λ i. (summary_reannounced i && (announced.live i && not (is_stub_default db area (announced.net i)))) && borders db area (announced.originator i)

  pub due_reannounced : due_in db area new ≡ due_in db area lsa
  unfolding due_in
  due_reannounced = λ i.
      option_map_or metric_for
      (option_or (option_and_then (cost_of_net area (routes_inside db (announced.originator i))) (announced.net i))
      (option_and_then (cost_of_asbr area (entries_inside db (announced.originator i)))
      (cond ((announced.kind i == asbr_summary_lsa) && not (is_stub_area db area)) (Some (announced.named i)) None))) ls_infinity
