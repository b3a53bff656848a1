use Rattle.std.proofs.Common.{arith, ◌∙◌, ap, sym, Option, Ok}
use Rattle.std.proofs.lemmas.Bool.{cond-false}
use Rattle.lsa_codec.specs.declared.link.Link.{Link}
use Rattle.lsa_codec.specs.Making.{with_metric_of, with_cost_on}
use Rattle.lsa_codec.proofs.Cost.{accepted_with_metric, rewrite_with_metric, lies_by_number, place_of_number, not_costly}
use Rattle.lsa_codec.proofs.lsa.Lsa.with_cost.Goals as goal
use Rattle.lsa_codec.specs.Links.{link_numbered}

pub with_metric_of-requires : goal.with_metric_of-requires
with_metric_of-requires g c =
    let numbered = sym c.in-Some-link_numbered.is ∙ c.link_numbered.ensures ∙ ap (link_numbered c.args.k) c.in-Some.ensures.0 in
    let place = lies_by_number c.args.k c.in-Some-link_numbered.link c.args.self.now c.bytes.ensures.accepted c.requires.router numbered in
    rw c.bytes.ensures.bytes (record { low = place.low; fits = place.fits; short = c.bytes.ensures.accepted.short })

pub accepted-requires : goal.accepted-requires
accepted-requires g c =
    let numbered = sym c.in-Some-link_numbered.is ∙ c.link_numbered.ensures ∙ ap (link_numbered c.args.k) c.in-Some.ensures.0 in
    let found = place_of_number c.args.k c.args.self.now c.in-Some-link_numbered.link numbered in
    let costly = not_costly c.in-Some-link_numbered.link.kind c.args.metric c.has_cost.result c.has_cost.ensures c.else-has_cost.either in
    rw (c.in_ok-bytes.ensures, c.bytes.ensures.bytes)
    (accepted_with_metric _ c.args.metric c.in-Some-link_numbered.link c.args.self.now
    c.bytes.ensures.accepted c.requires.router found (omega arith) costly)

pub returns-clause-made : goal.returns-clause-made
returns-clause-made g c =
    let link : Link = c.in-Some-link_numbered.link in
    let numbered = sym c.in-Some-link_numbered.is ∙ c.link_numbered.ensures ∙ ap (link_numbered c.args.k) c.in-Some.ensures.0 in
    let costly = not_costly link.kind c.args.metric c.has_cost.result c.has_cost.ensures c.else-has_cost.either in
    let made = c.accepted.ensures ∙ c.in_ok-bytes.ensures ∙ ap (with_metric_of link c.args.metric) c.bytes.ensures.bytes in
    ap (λ (o : Option Link). with_cost_on o c.args.metric c.args.self.now) (sym numbered) ∙ cond-false _ _ _ costly ∙ ap Ok (sym made)

pub returns-clause-keeps : goal.returns-clause-keeps
returns-clause-keeps g c =
    let numbered = sym c.in-Some-link_numbered.is ∙ c.link_numbered.ensures ∙ ap (link_numbered c.args.k) c.in-Some.ensures.0 in
    let found = place_of_number c.args.k c.args.self.now c.in-Some-link_numbered.link numbered in
    let costly = not_costly c.in-Some-link_numbered.link.kind c.args.metric c.has_cost.result c.has_cost.ensures c.else-has_cost.either in
    rw (c.accepted.ensures, c.in_ok-bytes.ensures, c.bytes.ensures.bytes)
    (rewrite_with_metric _ c.args.metric c.in-Some-link_numbered.link c.args.self.now c.bytes.ensures.accepted c.requires.router found (omega arith) costly)
