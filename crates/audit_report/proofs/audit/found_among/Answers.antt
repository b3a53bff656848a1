use Rattle.std.proofs.Common.{[], ◌∷◌, ◌++◌, ◌∙◌, filter, ap}
use Rattle.lsdb.specs.Slots.{lists_of}
use Rattle.study_words.specs.declared.audit_kind.AuditKind.TheVariants.{Nssa}
use Rattle.link_report.proofs.PushedLemmas.{made_all, made_at}
use Rattle.audit_report.specs.Findings.{FindingValue, is_found}
use Rattle.audit_report.proofs.Found.{found_adds}
use Rattle.audit_report.proofs.audit.found_among.Goals as goal

pub loop-kind-preserved : goal.loop-kind-preserved
loop-kind-preserved g c =
    made_at (found_adds (lists_of c.args.loaded.now) (lists_of c.args.now.now)) c.args.kinds.now c.loop-kind.kind-index Nssa
    c.loop-kind.findings.items _ c.loop-kind-test.true c.loop-kind.invariant
    (c.in_ok-push_if_found.ensures
    ∙ ap (λ (f : FindingValue). c.loop-kind.findings.items ++ filter is_found (f ∷ [])) c.in_ok-of.ensures)

pub returns : goal.returns
returns g c =
    made_all (found_adds (lists_of c.args.loaded.now) (lists_of c.args.now.now)) c.args.kinds.now c.loop-kind.kind-index
    c.loop-kind.findings.items c.loop-kind-test.false c.loop-kind.invariant
