use Rattle.std.proofs.Common.{◌∙◌, ◌++◌, List, ℕ, ap, sym, subst}
use Rattle.lsa_codec.specs.declared.address.Addr.{Addr}
use Rattle.lsa_codec.specs.Accepted.{IsAccepted}
use Rattle.lsa_codec.specs.Checksum.{with_checksum}
use Rattle.lsa_codec.specs.Originating.{new_header}
use Rattle.lsa_codec.proofs.Originated.{accepted_external}
use Rattle.lsa_codec.proofs.lsa.Lsa.new_external.Goals as goal

pub accepted-requires : goal.accepted-requires
accepted-requires g c =
    let header = c.new_header-header.ensures ∙ ap (λ (id : Addr). new_header 2 5 id c.args.adv 36) c.addr.ensures.addr in
    let made =
    c.in_ok-bytes.ensures ∙ ap (λ (h : List ℕ). with_checksum (h ++ c.external_body.result)) header
    ∙ ap (λ (b : List ℕ). with_checksum (new_header 2 5 c.args.net.addr c.args.adv 36 ++ b)) c.external_body.ensures.text in
    subst IsAccepted (sym made) (accepted_external c.args.adv c.args.net c.args.type2 c.args.metric c.args.forward c.args.tag c.external_body.ensures.prefix)

pub returns-clause-made : goal.returns-clause-made
returns-clause-made g c =
    let header = c.new_header-header.ensures ∙ ap (λ (id : Addr). new_header 2 5 id c.args.adv 36) c.addr.ensures.addr in
    c.accepted.ensures ∙ c.in_ok-bytes.ensures ∙ ap (λ (h : List ℕ). with_checksum (h ++ c.external_body.result)) header
    ∙ ap (λ (b : List ℕ). with_checksum (new_header 2 5 c.args.net.addr c.args.adv 36 ++ b)) c.external_body.ensures.text
