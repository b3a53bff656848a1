use Rattle.std.proofs.Common.{◌≡◌, None, ap, ◌∙◌}
use Rattle.lsa_codec.specs.Views.{metric_of}
use Rattle.area_candidates.specs.Between.{judged_summary}
use Rattle.area_candidates.proofs.summaries.summary_draft.Goals as goal

pub returns : goal.returns
returns g c =
    let lsa = c.lsa-lsa.ensures in
    let metric : c.metric-metric.result ≡ metric_of c.args.found.now.lsa = c.metric-metric.ensures ∙ ap metric_of (c.in-Some.ensures.0 ∙ lsa) in
    let judged : c.judged_summary.result ≡ judged_summary c.args.is_within c.args.is_examined c.args.view.now c.args.found.now.lsa =
    c.judged_summary.ensures ∙ ap (judged_summary c.args.is_within c.args.is_examined c.args.view.now) lsa in
    λ i. record { lsa = c.name.ensures i; link = None; metric = metric i; judged = judged i }
