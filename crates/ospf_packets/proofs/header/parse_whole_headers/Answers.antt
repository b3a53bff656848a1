use Rattle.std.proofs.Common.{sym, ◌∙◌}
use Rattle.std.proofs.lemmas.List.{append-nil}
use Rattle.ospf_packets.proofs.Headers.{one_more, all_headers}
use Rattle.ospf_packets.proofs.header.parse_whole_headers.Goals as goal

pub loop-index-init : goal.loop-index-init
loop-index-init g c = sym (append-nil c.args.parsed.now.items)

pub loop-index-preserved : goal.loop-index-preserved
loop-index-preserved g c =
    c.in_ok-push.ensures.items
    ∙ one_more c.args.parsed.now.items c.loop-index.parsed.items c.args.area c.args.bytes.now c.loop-index.index c.header_in-header.result
    c.loop-index.invariant c.header_in-header.ensures

pub returns : goal.returns
returns g c =
    all_headers c.args.parsed.now.items c.loop-index.parsed.items c.args.area c.args.bytes.now c.loop-index.index c.loop-index.auto.index-end
    c.loop-index-test.false c.loop-index.invariant
