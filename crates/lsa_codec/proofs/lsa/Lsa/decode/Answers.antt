use Rattle.std.proofs.Common.{arith, ◌∙◌}
use Rattle.std.proofs.lemmas.Result.{err_from_is_err_and}
use Rattle.lsa_codec.proofs.Decoded.{fault_answered, accepted_front, decoded_is}
use Rattle.lsa_codec.proofs.lsa.Lsa.decode.Goals as goal

pub returns-in_err-check-clause-fault : goal.returns-in_err-check-clause-fault
returns-in_err-check-clause-fault g c =
    let p = err_from_is_err_and c.from_residual.result c.from_residual.ensures.1 in
    let went_on =
    decoded_is c.args.bytes.now c.from-size.result c.if-bytes-lt20.false (c.from-size.ensures ∙ c.u16_at.ensures) c.if-size-lt20.false c.if-bytes-size.false in
    rw (p.1, p.2) (fault_answered _ _ _ c.in_err-check.ensures.fault went_on)

pub invariant_of-result : goal.invariant_of-result
invariant_of-result g c =
    let short = c.u16_at.type_inv in
    rw c.in_ok-bytes.ensures.items (accepted_front c.from-size.result c.args.bytes.now _ c.if-size-lt20.false (omega arith)
    (c.from-size.ensures ∙ c.u16_at.ensures) c.if-bytes-size.false c.in_ok-check.ensures.ok)

pub returns-clause-accepted : goal.returns-clause-accepted
returns-clause-accepted g c = invariant_of-result g c
