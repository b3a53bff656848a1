use Rattle.std.proofs.Common.{ℕ, ◌+◌, ◌<◌, ◌≤◌, cond, [], ◌∷◌, ◌++◌, get_or, length, ap, ◌∙◌, arith}
use Rattle.lsa_codec.specs.declared.link.Link.{Link}
use Rattle.link_report.specs.NamedLinks.{is_named, link_numbers}
use Rattle.link_report.proofs.LinkLengths.{length-links_of}
use Rattle.link_report.proofs.NumberedLemmas.{numbered_all, numbered_more}
use Rattle.link_report.proofs.Takings.{takes_some}
use Rattle.link_report.proofs.named.link_numbers.Goals as goal

pub index-requires : goal.index-requires
index-requires g c =
    omega (
      arith,
      c.from.ensures,
      c.loop-place-test.true,
      c.link_count-place-end.ensures,
      length-links_of c.args.lsa.now,
      ap length c.in_ok-links.ensures,
      c.in_ok-links.links.ok.0,
    )

pub loop-place-preserved : goal.loop-place-preserved
loop-place-preserved g c =
    let name = c.args.name.now in
    let links = c.in_ok-links.links.items in
    let place = c.loop-place.place in
    let link = c.index.result.now in
    let numbers = c.loop-place.numbers.items in
    let below : place < length links =
    omega (arith, c.loop-place-test.true, c.link_count-place-end.ensures, length-links_of c.args.lsa.now, ap length c.in_ok-links.ensures) in
    numbered_more (takes_some (λ (p : ℕ × Link). is_named name p.0 p.1) (λ p. p.0)) links place (place + 1) link numbers _ _ below c.loop-place.invariant
    (c.in_ok-push_named.ensures
    ∙ ap (λ (l : Link). numbers ++ cond (is_named name (place + 1) l) ((place + 1) ∷ []) [])
    (c.index.ensures ∙ ap (λ n. get_or links n link) c.from.ensures))

pub returns : goal.returns
returns g c =
    let name = c.args.name.now in
    let links = c.in_ok-links.links.items in
    let place = c.loop-place.place in
    let past : length links ≤ place =
    omega (arith, c.loop-place-test.false, c.link_count-place-end.ensures, length-links_of c.args.lsa.now, ap length c.in_ok-links.ensures) in
    numbered_all (takes_some (λ (p : ℕ × Link). is_named name p.0 p.1) (λ p. p.0)) links place (place + 1) c.loop-place.numbers.items
    (link_numbers name c.args.lsa.now) past c.loop-place.invariant
