use Rattle.std.proofs.Common.{◌≡◌, ◌∙◌, ◌+◌, ◌++◌, ◌≤◌, ℕ, List, ap, arith, length}
use Rattle.std.proofs.lemmas.List.{length-append}
use Rattle.lsa_codec.specs.Making.{recounted, stub_text}
use Rattle.lsa_codec.proofs.Relinked.{finished}
use Rattle.lsa_codec.proofs.relink.extended.Goals as goal

pub returns-clause-made : goal.returns-clause-made
returns-clause-made g c =
    let lsa : List ℕ = c.args.lsa.now in
    let text : List ℕ = stub_text c.args.net c.args.metric in
    let body : c.deref_mut.result.now ≡ lsa ++ text =
    c.deref_mut.ensures.value ∙ c.in_ok-extend_from_slice.ensures.items
    ∙ ap (λ (b : List ℕ). b ++ c.stub_text.result) c.in_ok-bytes.ensures.items
    ∙ ap (λ (t : List ℕ). lsa ++ t) c.stub_text.ensures.text in
    let count : ℕ = c.u16_at.result + 1 in
    let long : 24 ≤ length c.deref_mut.result.now = omega (arith, ap length body, length-append lsa text, c.requires.header) in
    finished count c.deref_mut.result.now c.recount.new.lsa c.extend_from_slice.new.self.items
    c.extend_from_slice.new.self.len long c.recount.ensures c.deref_mut.ensures.len
    ∙ ap (recounted count) body
    ∙ ap (λ (n : ℕ). recounted (n + 1) (lsa ++ text)) c.u16_at.ensures
