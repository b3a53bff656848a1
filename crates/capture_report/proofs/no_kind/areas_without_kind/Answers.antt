use Rattle.std.proofs.Common.{ap, ◌∙◌}
use Rattle.std.proofs.lemmas.Result.{IfOk-weaker}
use Rattle.network_files.specs.Dumps.{areas_of}
use Rattle.capture_report.specs.NoKind.{without_kind}
use Rattle.capture_report.proofs.AreaSets.{those_left}
use Rattle.capture_report.proofs.no_kind.areas_without_kind.Goals as goal

pub returns : goal.returns
returns g c =
    let kinds = areas_of c.args.files.now in
    IfOk-weaker c.without.result _ _
    (λ left h.
    those_left kinds c.deref.result.now c.deref-2.result.now left.items c.in_ok-kinds.kinds (c.deref.ensures.value ∙ c.in_ok-kind_areas.ensures)
    c.in_ok-kinds.ensures h
    ∙ ap (without_kind kinds) (c.deref-2.ensures.value ∙ c.in_ok-ids.ensures))
    c.without.ensures
