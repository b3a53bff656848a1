use Rattle.std.proofs.Common.{◌∙◌, ◌++◌, List, ℕ, ap, sym, subst}
use Rattle.lsa_codec.specs.declared.address.Addr.{Addr}
use Rattle.lsa_codec.specs.Accepted.{IsAccepted}
use Rattle.lsa_codec.specs.Checksum.{with_checksum}
use Rattle.lsa_codec.specs.Originating.{new_header}
use Rattle.lsa_codec.proofs.Originated.{accepted_summary}
use Rattle.lsa_codec.proofs.lsa.Lsa.new_summary.Goals as goal

pub accepted-requires : goal.accepted-requires
accepted-requires g c =
    let header = c.new_header-header.ensures ∙ ap (λ (id : Addr). new_header c.args.options 3 id c.args.adv 28) c.addr.ensures.addr in
    let made =
    c.in_ok-bytes.ensures ∙ ap (λ (h : List ℕ). with_checksum (h ++ c.summary_body.result)) header
    ∙ ap (λ (b : List ℕ). with_checksum (new_header c.args.options 3 c.args.net.addr c.args.adv 28 ++ b)) c.summary_body.ensures.text in
    subst IsAccepted (sym made) (accepted_summary c.args.options c.args.adv c.args.net c.args.metric c.summary_body.ensures.prefix)

pub returns-clause-made : goal.returns-clause-made
returns-clause-made g c =
    let header = c.new_header-header.ensures ∙ ap (λ (id : Addr). new_header c.args.options 3 id c.args.adv 28) c.addr.ensures.addr in
    c.accepted.ensures ∙ c.in_ok-bytes.ensures ∙ ap (λ (h : List ℕ). with_checksum (h ++ c.summary_body.result)) header
    ∙ ap (λ (b : List ℕ). with_checksum (new_header c.args.options 3 c.args.net.addr c.args.adv 28 ++ b)) c.summary_body.ensures.text
