use Rattle.std.proofs.Common.{◌≡◌, ◌∙◌, ◌+◌, ◌-◌, ◌++◌, ℕ, List, ap, sym, arith, take, drop, get_or}
use Rattle.std.specs.List.{flat_map}
use Rattle.std.proofs.lemmas.List.{take_more, flat_map_more}
use Rattle.lsa_codec.specs.declared.link.Link.{Link}
use Rattle.lsa_codec.specs.Links.{link_length}
use Rattle.lsa_codec.specs.Making.{link_text}
use Rattle.lsa_codec.proofs.Relinked.{first_of}
use Rattle.lsa_codec.proofs.relink.link_texts.Goals as goal

pub loop-link-preserved : goal.loop-link-preserved
loop-link-preserved g c =
    let lsa : List ℕ = c.args.lsa.now in
    let i : ℕ = c.loop-link.link-index in
    let link : Link = get_or c.args.kept.now i first_of in
    let size : link.offset + c.link_length.result - link.offset ≡ link_length link.offset lsa = omega (arith, c.link_length.ensures) in
    c.in_ok-extend_from_slice.ensures.items
    ∙ ap (λ (n : ℕ). c.loop-link.bytes.items ++ take n (drop link.offset lsa)) size
    ∙ ap (λ (b : List ℕ). b ++ link_text lsa link) c.loop-link.invariant
    ∙ flat_map_more (link_text lsa) (take 24 lsa) (take i c.args.kept.now) link
    ∙ ap (λ (ls : List Link). take 24 lsa ++ flat_map (link_text lsa) ls) (sym (take_more c.args.kept.now i first_of c.loop-link-test.true))
