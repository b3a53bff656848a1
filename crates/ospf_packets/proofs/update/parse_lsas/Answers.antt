use Rattle.std.proofs.Common.{◌+◌, ◌-◌, ◌++◌, ◌∷◌, [], length, take, drop, sym, ap, ◌∙◌, arith}
use Rattle.ospf_packets.specs.Updates.{parsed_lsa, parsed_lsas}
use Rattle.ospf_packets.proofs.Slices.{rest_at}
use Rattle.ospf_packets.proofs.Lsas.{one_more}
use Rattle.ospf_packets.proofs.update.parse_lsas.Goals as goal

pub lsas-preserved : goal.lsas-preserved
lsas-preserved g c =
    let bytes = c.lsas.rest.now in
    let before = c.lsas.parsed.items in
    let size = c.in-Ok.size in
    let left = c.args.count - (c.lsas.counter + 1) in
    ap (λ t. t ++ parsed_lsas c.args.by left (take (length bytes - size) (drop size bytes)))
    (c.in_ok-push-in-Ok.ensures.items ∙ ap (λ v. before ++ v ∷ []) c.in_ok-parsed_lsa-in-Ok.ensures)
    ∙ ap (λ r. (before ++ parsed_lsa c.args.by (take size bytes) ∷ []) ++ parsed_lsas c.args.by left r) (rest_at bytes size)
    ∙ one_more before c.args.count c.lsas.counter c.args.by bytes size _ (omega arith) (sym c.lsa_length.ensures.same ∙ c.in-Ok.is)
    c.lsas.invariant
