use Rattle.std.proofs.Common.{◌≡◌, ◌∙◌, ℕ, List, true, not, ap, sym, Ok, subst}
use Rattle.std.specs.List.{filter, list_any}
use Rattle.std.proofs.lemmas.Bool.{cond-true}
use Rattle.std.proofs.lemmas.Result.{IfOk-weaker}
use Rattle.lsa_codec.specs.declared.link.Link.{Link}
use Rattle.lsa_codec.specs.Links.{links_of}
use Rattle.lsa_codec.specs.Making.{is_end_of, with_links}
use Rattle.lsa_codec.proofs.Relinked.{AreKept, kept_filtered}
use Rattle.lsa_codec.proofs.Rewritten.{links_rewritten}
use Rattle.lsa_codec.proofs.lsa.Lsa.without_links.Goals as goal

pub with_links-requires : goal.with_links-requires
with_links-requires g c =
    let lsa : List ℕ = c.args.self.now in
    let kept =
    c.deref.ensures.value ∙ c.in_ok-kept.ensures ∙ ap (λ (b : List ℕ). filter (λ link. not (is_end_of c.args.target link)) (links_of b)) c.in-Some.ensures.0 in
    let are = subst (AreKept lsa) (sym kept) (kept_filtered (λ link. not (is_end_of c.args.target link)) lsa c.in-Some.ensures.2 c.requires.router) in
    record { router = c.requires.router; links = are.links; shorter = are.shorter }

pub returns-clause-made : goal.returns-clause-made
returns-clause-made g c =
    let lsa : List ℕ = c.args.self.now in
    let kept =
    c.deref.ensures.value ∙ c.in_ok-kept.ensures ∙ ap (λ (b : List ℕ). filter (λ link. not (is_end_of c.args.target link)) (links_of b)) c.in-Some.ensures.0 in
    let there : list_any (is_end_of c.args.target) (links_of lsa) ≡ true =
    ap (λ (b : List ℕ). list_any (is_end_of c.args.target) (links_of b)) (sym c.in-Some.ensures.0) ∙ sym c.has_link_to.ensures ∙ c.if-not-has_link_to.false in
    IfOk-weaker c.with_links.result _ _
    (λ new made. cond-true _ _ _ there ∙ ap Ok (sym (made ∙ ap (λ (ls : List Link). with_links ls lsa) kept))) c.with_links.ensures.made

pub returns-clause-keeps : goal.returns-clause-keeps
returns-clause-keeps g c =
    IfOk-weaker c.with_links.result _ _
    (λ new made. links_rewritten (is_end_of c.args.target) c.args.self.now new c.in-Some.ensures.2 c.requires.router made) (returns-clause-made g c)
