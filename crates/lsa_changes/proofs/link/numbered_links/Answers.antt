use Rattle.std.proofs.Common.{◌≤◌, ◌<◌, ◌+◌, [], ◌∷◌, ◌++◌, ◌∙◌, List, ap, arith, length}
use Rattle.lsa_codec.specs.declared.link.Link.{Link}
use Rattle.lsa_changes.specs.Links.{numbered}
use Rattle.lsa_changes.proofs.Numbers.{numbered_all, numbered_more, numbered_one}
use Rattle.lsa_changes.proofs.link.numbered_links.Goals as goal

pub loop-i-preserved : goal.loop-i-preserved
loop-i-preserved g c =
    let links = c.in_ok-links.links.items in
    let i = c.loop-i.i in
    let link = c.index-link.result.now in
    let below : i < length links = omega (arith, c.len-i-end.ensures, c.loop-i-test.true) in
    numbered_more links i link c.loop-i.numbered.items _ (numbered links) below c.loop-i.invariant
    (c.in_ok-push.ensures.items ∙ ap (λ (l : Link). c.loop-i.numbered.items ++ numbered_one (i + 1, l) ∷ []) c.index-link.ensures)

pub returns : goal.returns
returns g c =
    let links = c.in_ok-links.links.items in
    let past : length links ≤ c.loop-i.i = omega (arith, c.len-i-end.ensures, c.loop-i-test.false) in
    numbered_all links c.loop-i.i c.loop-i.numbered.items (numbered links) past c.loop-i.invariant
    ∙ ap (λ (l : List Link). numbered l) c.in_ok-links.ensures
