use Rattle.std.proofs.Common.{◌≡◌, ◌∙◌, ℕ, List, ap, sym, arith, length, subst}
use Rattle.lsa_codec.specs.Making.{link_text, recounted}
use Rattle.lsa_codec.proofs.LinkTexts.{body_of}
use Rattle.lsa_codec.proofs.Relinked.{kept_few, accepted_links, has_texts, finished, length-body}
use Rattle.lsa_codec.specs.Accepted.{IsAccepted}
use Rattle.lsa_codec.proofs.lsa.Lsa.with_links.Goals as goal

pub overflow_cast-kept : goal.overflow_cast-kept
overflow_cast-kept g c = omega (arith, kept_few c.args.self.now c.args.kept.now c.bytes.ensures.accepted c.requires.links c.requires.shorter)

pub recount-requires-clause-header : goal.recount-requires-clause-header
recount-requires-clause-header g c =
    let lsa : List ℕ = c.args.self.now in
    let size = length-body (link_text lsa) c.args.kept.now lsa (has_texts lsa c.bytes.ensures.accepted c.requires.router).long in
    rw (c.deref_mut.ensures.value, c.in_ok-bytes.ensures, c.bytes.ensures.bytes) (omega arith)

pub recount-requires-clause-short : goal.recount-requires-clause-short
recount-requires-clause-short g c =
    let lsa : List ℕ = c.args.self.now in
    let size = length-body (link_text lsa) c.args.kept.now lsa (has_texts lsa c.bytes.ensures.accepted c.requires.router).long in
    rw (c.deref_mut.ensures.value, c.in_ok-bytes.ensures, c.bytes.ensures.bytes) (omega (arith, c.bytes.ensures.accepted.short, c.requires.shorter))

pub accepted-requires : goal.accepted-requires
accepted-requires g c =
    let lsa : List ℕ = c.args.self.now in
    let kept = c.args.kept.now in
    let old = c.bytes.ensures.accepted in
    let body : c.deref_mut.result.now ≡ body_of (link_text lsa) kept lsa =
    c.deref_mut.ensures.value ∙ c.in_ok-bytes.ensures ∙ ap (λ (b : List ℕ). body_of (link_text b) kept b) c.bytes.ensures.bytes in
    let size = length-body (link_text lsa) kept lsa (has_texts lsa old c.requires.router).long in
    let whole =
    finished (length kept) c.deref_mut.result.now c.recount.new.lsa c.in_ok-bytes.bytes.items c.in_ok-bytes.bytes.len
    (omega (arith, ap length body)) c.recount.ensures c.deref_mut.ensures.len in
    subst IsAccepted (sym (whole ∙ ap (recounted (length kept)) body)) (accepted_links lsa kept old c.requires.router c.requires.links c.requires.shorter)
