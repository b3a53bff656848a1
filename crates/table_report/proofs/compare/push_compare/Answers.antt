use Rattle.std.proofs.Common.{◌++◌, ◌∙◌, List, ap, codes, length}
use Rattle.std.specs.String.{string_bytes}
use Rattle.best_ways.specs.Values.{RouteValue}
use Rattle.table_report.specs.Texts.{lines_text}
use Rattle.table_report.specs.Comparing.{changes}
use Rattle.table_report.proofs.Joined.{compare_text_is, headed_pushed, on_ok}
use Rattle.table_report.proofs.compare.push_compare.Goals as goal

pub returns : goal.returns
returns g c =
    let before = c.args.before.now in
    let now = c.args.now.now in
    let old = string_bytes c.args.text.now in
    let all = changes before.routes now.routes in
    let made = c.in_ok-changes.changes in
    let are = ap (λ (l : List RouteValue). changes l c.routes-2.result.now) c.routes.ensures ∙ ap (changes before.routes) c.routes-2.ensures in
    on_ok c.push_str.result
    (λ pushed. pushed ∙ ap (λ l. old ++ l) (compare_text_is c.args.router before now))
    (headed_pushed c.push_str.result (codes "compare") c.args.router all made.count old _ _ _ c.in_ok-write.ensures.bytes
    (c.in_ok-changes.ensures.1 ∙ ap length are) (c.deref.ensures ∙ c.in_ok-changes.ensures.0 ∙ ap lines_text are) c.push_str.ensures.bytes)
