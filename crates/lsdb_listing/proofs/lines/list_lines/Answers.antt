use Rattle.std.proofs.Common.{◌++◌, List, flat_map, ap, subst, ◌∙◌}
use Rattle.std.proofs.lemmas.Result.{IfOk-weaker}
use Rattle.findings.specs.Lines.{finding_lines}
use Rattle.findings.specs.declared.finding.Finding.{Finding}
use Rattle.lsdb.specs.Slots.{lists_of}
use Rattle.lsdb_listing.specs.Comparing.{differences}
use Rattle.lsdb_listing.specs.Once.{AreOnce}
use Rattle.lsdb_listing.specs.Texts.{difference_line}
use Rattle.lsdb_listing.proofs.lines.list_lines.Goals as goal

pub returns : goal.returns
returns g c =
    IfOk-weaker c.lines_of.result _ _
    (λ text parsed. record {
      found = parsed.0;
      once = subst (λ ds. AreOnce ds parsed.0) (c.in_ok-found.ensures ∙ ap (differences (lists_of c.args.database.now)) c.deref.ensures.value) parsed.1.0;
      spelled = parsed.1.1
          ∙ ap (λ (hs : List Finding). finding_lines c.args.name.now hs ++ flat_map (difference_line c.args.name.now) parsed.0) c.deref-2.ensures.value;
    })
    c.lines_of.ensures
