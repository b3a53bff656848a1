use Rattle.std.proofs.Common.{◌++◌, ◌∙◌, ap, codes, map, sym}
use Rattle.std.specs.String.{string_bytes}
use Rattle.std.proofs.lemmas.List.{length-map}
use Rattle.table_report.specs.Texts.{headed, line_of}
use Rattle.table_report.proofs.Joined.{on_ok, pushed_is, table_text_is}
use Rattle.table_report.proofs.text.push_table.Goals as goal

pub returns : goal.returns
returns g c =
    let table = c.args.table.now in
    let routes = c.as_slice-routes.result.now in
    let old = string_bytes c.args.text.now in
    let are = c.as_slice-routes.ensures.routes ∙ c.routes.ensures in
    on_ok c.push_lines.result
    (λ pushed. pushed_is (codes "table") c.router-router.result (map line_of routes) _ old _ _
    c.in_ok-write.ensures.bytes (sym (length-map routes line_of)) pushed
    ∙ ap (λ r. old ++ headed (codes "table") r (map line_of routes)) c.router-router.ensures
    ∙ ap (λ l. old ++ headed (codes "table") table.router (map line_of l)) are ∙ ap (λ l. old ++ l) (table_text_is table))
    c.push_lines.ensures
