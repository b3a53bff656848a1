use Rattle.std.proofs.Common.{◌∙◌, ap}
use Rattle.lsdb.specs.Slots.{lists_of}
use Rattle.audit_report.specs.Findings.{found_among}
use Rattle.audit_report.proofs.audit.audit_of.Goals as goal

pub returns : goal.returns
returns g c = c.in_ok-findings.ensures ∙ ap (found_among (lists_of c.args.loaded.now) (lists_of c.args.now.now)) c.all.ensures
