use Rattle.std.proofs.Common.{◌++◌, ◌∙◌, [], ap, codes, refl, sym}
use Rattle.std.specs.String.{string_bytes}
use Rattle.std.proofs.lemmas.List.{append-nil}
use Rattle.table_report.specs.Texts.{headed}
use Rattle.table_report.proofs.Joined.{on_ok, pushed_is, compare_text_is}
use Rattle.table_report.proofs.NoChange.{no_changes}
use Rattle.table_report.proofs.compare.push_no_change.Goals as goal

pub returns : goal.returns
returns g c =
    let old = string_bytes c.args.text.now in
    let router = c.args.router in
    on_ok c.write.result
    (λ bytes table. pushed_is (codes "compare") router [] 0 old _ _ bytes refl (sym (append-nil _))
    ∙ ap (λ l. old ++ headed (codes "compare") router l) (sym (no_changes table.routes))
    ∙ ap (λ l. old ++ l) (compare_text_is router table table))
    c.write.ensures.bytes
