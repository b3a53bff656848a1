use Rattle.std.proofs.Common.{List, ◌++◌, ap, ◌∙◌}
use Rattle.std.proofs.lemmas.Result.{IfOk-weaker}
use Rattle.findings.specs.declared.part.Part.{Part}
use Rattle.findings.specs.Contents.{content_of}
use Rattle.ospf_packets.specs.Contents.{parts_at}
use Rattle.ospf_packets.proofs.packets.read_frames.Goals as goal

pub returns : goal.returns
returns g c =
    IfOk-weaker c.sorted.result _ _
    (λ content h. h ∙ ap content_of (c.in_ok-put_end.ensures
    ∙ ap (λ (front : List (Part g.row.A.Denot)). front ++ parts_at c.args.end) c.in_ok-parts.ensures))
    c.sorted.ensures
