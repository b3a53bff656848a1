use Rattle.std.proofs.Common.{◌≡◌, ◌++◌, false, ◌&&◌, sym, ap, ◌∙◌}
use Rattle.std.proofs.lemmas.Result.{on_ok_weaker}
use Rattle.lsa_codec.specs.LsTypes.{router_lsa, network_lsa, external_lsa}
use Rattle.lsa_changes.specs.Changes.{are_both, is_summary, summary_changes}
use Rattle.lsa_changes.proofs.ByType.{and_false, by_content, by_summary, no_first, no_second, no_summary}
use Rattle.lsa_changes.proofs.change.push_changes.Goals as goal
use Rattle.lsa_changes.proofs.change.push_changes.Goals.{in-Some+in-None-1, in-None-1, in-Some+in-None-2, in-None-2, in-Some+in-None-3, in-None-3, in-Some+in-None-4, in-None-4}

pub returns-in-Some-Some-3 : goal.returns-in-Some-Some-3
returns-in-Some-Some-3 g c =
    let before = c.args.before.now in
    let now = c.args.now.now in
    let old = c.args.changes.now.items in
    let was = c.in-Some-Some-3.ensures in
    let is = c.in-Some-Some-3.ensures' in
    on_ok_weaker c.push_summary.result
    (λ pushed. pushed ∙ (λ i. old ++ summary_changes (was.0 i) (is.0 i)) ∙ ap (λ l. old ++ l) (sym (by_summary before now was.1 was.2 is.1 is.2)))
    c.push_summary.ensures

pub returns : goal.returns
returns g c =
    let before = c.args.before.now in
    let now = c.args.now.now in
    let old = c.args.changes.now.items in
    let routers : are_both router_lsa before now ≡ false =
    elim c.match-router.branch [
      | in-Some+in-None-1 w ↦ no_second router_lsa c.router-2.result before now _ c.router-2.ensures (cc)
      | in-None-1 w ↦ no_first router_lsa c.router.result before now _ c.router.ensures (cc)
    ] in
    let networks : are_both network_lsa before now ≡ false =
    elim c.match-network.branch [
      | in-Some+in-None-2 w ↦ no_second network_lsa c.network-2.result before now _ c.network-2.ensures (cc)
      | in-None-2 w ↦ no_first network_lsa c.network.result before now _ c.network.ensures (cc)
    ] in
    let summaries : (is_summary before && is_summary now) ≡ false =
    elim c.match-summary.branch [
      | in-Some+in-None-3 w ↦ and_false (is_summary before) (is_summary now) (no_summary c.summary-2.result now _ c.summary-2.ensures (cc))
      | in-None-3 w ↦ ap (λ t. t && is_summary now) (no_summary c.summary.result before _ c.summary.ensures (cc))
    ] in
    let externals : are_both external_lsa before now ≡ false =
    elim c.match-external.branch [
      | in-Some+in-None-4 w ↦ no_second external_lsa c.external-2.result before now _ c.external-2.ensures (cc)
      | in-None-4 w ↦ no_first external_lsa c.external.result before now _ c.external.ensures (cc)
    ] in
    on_ok_weaker c.push_content.result
    (λ pushed. pushed ∙ ap (λ l. old ++ l) (sym (by_content before now routers networks summaries externals)))
    c.push_content.ensures
