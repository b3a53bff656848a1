use Rattle.std.proofs.Common.{◌∙◌, ap, sym, subst}
use Rattle.lsa_codec.specs.Accepted.{IsAccepted}
use Rattle.lsa_codec.specs.Originating.{with_metric}
use Rattle.lsa_codec.proofs.Originated.{accepted_metric, metric_long}
use Rattle.lsa_codec.specs.Making.{IsRewriteOf}
use Rattle.lsa_codec.proofs.Rewritten.{metric_rewritten}
use Rattle.lsa_codec.proofs.lsa.Lsa.with_metric.Goals as goal

pub accepted-requires : goal.accepted-requires
accepted-requires g c =
    let old = c.bytes.ensures.accepted in
    let made = c.in_ok-bytes.ensures ∙ ap (with_metric c.args.metric) c.bytes.ensures.bytes in
    subst IsAccepted (sym made) (accepted_metric c.args.metric c.args.self.now old c.requires.kind (metric_long c.args.self.now old c.requires.kind))

pub returns-clause-keeps : goal.returns-clause-keeps
returns-clause-keeps g c =
    let made = c.accepted.ensures ∙ c.in_ok-bytes.ensures ∙ ap (with_metric c.args.metric) c.bytes.ensures.bytes in
    subst (IsRewriteOf c.args.self.now) (sym made) (metric_rewritten c.args.metric c.args.self.now c.bytes.ensures.accepted c.requires.kind)
