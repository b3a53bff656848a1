use Rattle.std.proofs.Common.{◌≡◌, ℕ, List, rules, false, subst}
use Rattle.network_names.specs.Names.{called}
use Rattle.lsdb.specs.Slots.{lists_of}
use Rattle.edit_history.specs.Session.{Session}
use Rattle.branches.specs.Branches.{sessions_of}
use Rattle.study_script.specs.Expected.{expected}
use Rattle.study_script.specs.Spelling.{condition_word}
use Rattle.study_text.specs.Shown.{Called}
use Rattle.study_json.specs.Unnamed.{no_names}
use Rattle.study_documents.specs.Outcomes.{expectation_reply}
use Rattle.study_expectations.specs.Expectations.{IsVerdict}
use Rattle.study_expectations.specs.Verdicts.{found}
use Rattle.study_expectations.specs.steps.Verdicts.{verdict_of}
use Rattle.document_answers.specs.Documented.{IsTextOf}
use Rattle.document_answers.specs.Expectations.{IsJudged, is_met}
use Rattle.document_answers.proofs.expectations.judge.Goals as goal

pub returns-clause-judged : goal.returns-clause-judged
unfolding IsJudged
returns-clause-judged g c =
    let s = sessions_of c.args.branches.now c.args.branch in
    let what = expected c.args.expectation.now.condition in
    let baseline = lists_of c.args.baseline.now in
    let names = called c.args.names.now in
    let plain = found c.in-Found.holds c.in-Found.text.items in
    let named = verdict_of c.in_ok-named.named in
    let members = c.in_ok-members.members.items in
    let is_plain : IsVerdict no_names baseline s what plain =
    subst (λ (called_so : Called). IsVerdict called_so baseline s what plain) c.no_names-unnamed.ensures
    (subst (λ v. IsVerdict (called c.no_names-unnamed.result) baseline s what (verdict_of v)) c.in-Found.is c.in_ok-verdict_on.ensures.verdict) in
    let is_text : IsTextOf (expectation_reply (condition_word what) c.in-Found.text.items) members =
    subst (λ (text : List ℕ). IsTextOf (expectation_reply (condition_word what) text) members) c.deref.ensures.value c.in_ok-members.ensures in
    let is_named : IsVerdict names baseline s what named =
    subst (λ (sessions : ℕ → Session). IsVerdict names baseline (sessions c.args.branch) what named) c.in_ok-verdict_on.ensures.kept
    c.in_ok-named.ensures.verdict in
    let not_met : is_met c.args.expectation.now.is_not c.in-Found.holds ≡ false = search rules in
    (plain, (is_plain, (not_met, (is_text, (named, (is_named, c.text_found-shown.ensures))))))
