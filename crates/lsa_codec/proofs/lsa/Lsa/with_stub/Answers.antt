use Rattle.std.proofs.Common.{◌∙◌, ◌+◌, ◌++◌, ◌≤◌, ℕ, List, ap, sym, arith, length, subst, Ok}
use Rattle.lsa_codec.specs.Accepted.{IsAccepted}
use Rattle.lsa_codec.specs.Links.{link_count}
use Rattle.lsa_codec.specs.Making.{recounted, stub_text}
use Rattle.lsa_codec.proofs.Relinked.{has_texts, accepted_stub, stub_made}
use Rattle.lsa_codec.proofs.Rewritten.{stub_extended}
use Rattle.lsa_codec.proofs.lsa.Lsa.with_stub.Goals as goal

pub extended-requires : goal.extended-requires
extended-requires g c =
    let has = has_texts c.args.self.now c.bytes.ensures.accepted c.requires.router in
    rw c.bytes-2.ensures.bytes (
    record {
      header = has.long;
      short = omega (arith, ap length c.bytes.ensures.bytes, c.if-bytes-gt-LONGEST_LSA.false);
      few = omega (arith, has.few, c.bytes.ensures.accepted.short);
    })

pub accepted-requires : goal.accepted-requires
accepted-requires g c =
    let lsa : List ℕ = c.args.self.now in
    let short : length lsa + 12 ≤ 65535 = omega (arith, ap length c.bytes.ensures.bytes, c.if-bytes-gt-LONGEST_LSA.false) in
    let made =
    c.in_ok-bytes.ensures.made ∙ ap (λ (b : List ℕ). recounted (link_count b + 1) (b ++ stub_text c.args.net c.args.metric)) c.bytes-2.ensures.bytes in
    subst IsAccepted (sym made) (accepted_stub c.args.net c.args.metric lsa c.bytes.ensures.accepted c.requires.router c.extended.ensures.prefix short)

pub returns-clause-made : goal.returns-clause-made
returns-clause-made g c =
    let lsa : List ℕ = c.args.self.now in
    let short : length lsa + 12 ≤ 65535 = omega (arith, ap length c.bytes.ensures.bytes, c.if-bytes-gt-LONGEST_LSA.false) in
    let made =
    c.in_ok-bytes.ensures.made ∙ ap (λ (b : List ℕ). recounted (link_count b + 1) (b ++ stub_text c.args.net c.args.metric)) c.bytes-2.ensures.bytes in
    stub_made c.args.net c.args.metric lsa short ∙ ap Ok (sym (c.accepted.ensures ∙ made))

pub returns-clause-keeps : goal.returns-clause-keeps
returns-clause-keeps g c =
    stub_extended c.args.net c.args.metric c.args.self.now c.accepted.result c.bytes.ensures.accepted
    c.requires.router c.extended.ensures.prefix (returns-clause-made g c)
