use Rattle.std.proofs.Common.{sym, ap, ◌∙◌, drop, arith}
use Rattle.ospf_packets.specs.Links.{after_type}
use Rattle.ospf_packets.proofs.Slices.{rest_at}
use Rattle.ospf_packets.proofs.Tags.{tagged}
use Rattle.ospf_packets.proofs.link.after_type.Goals as goal

pub tags-preserved : goal.tags-preserved
tags-preserved c =
    let rest = c.tags.rest.now in
    ap (after_type c.u16_at-kind.result) (rest_at rest 4)
    ∙ ap (λ k. after_type k (drop 4 rest)) c.u16_at-kind.ensures
    ∙ sym (tagged c.tags.kind rest (sym c.is_tag.ensures ∙ c.tags-test.true) (omega arith))
    ∙ c.tags.invariant
