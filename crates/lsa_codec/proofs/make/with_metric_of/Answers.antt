use Rattle.std.proofs.Common.{◌≡◌, ◌∙◌, ap, sym, length}
use Rattle.lsa_codec.specs.Making.{with_metric_of}
use Rattle.lsa_codec.proofs.Cost.{length-made, written}
use Rattle.lsa_codec.proofs.make.with_metric_of.Goals as goal

pub returns : goal.returns
returns g c =
    let made = c.set_metric.ensures ∙ ap (with_metric_of c.args.link c.args.metric) (c.deref_mut.ensures.value ∙ c.in_ok-bytes.ensures.items) in
    let size = length-made c.args.link.offset c.args.metric c.args.lsa.now c.requires.low c.requires.fits in
    let same : length c.set_metric.new.lsa ≡ length c.args.lsa.now = ap length made ∙ size in
    written _ c.set_metric.new.lsa _ (same ∙ sym c.in_ok-bytes.ensures.len) ∙ made
