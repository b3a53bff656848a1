use Rattle.std.proofs.Common.{◌≡◌, ◌∙◌, ◌-◌, ℕ, List, true, ap, sym, Ok, subst}
use Rattle.std.specs.Prelude.{is_some}
use Rattle.std.specs.List.{remove}
use Rattle.std.proofs.lemmas.Bool.{cond-true}
use Rattle.std.proofs.lemmas.Result.{IfOk-weaker}
use Rattle.lsa_codec.specs.declared.link.Link.{Link}
use Rattle.lsa_codec.specs.Links.{links_of, link_numbered}
use Rattle.lsa_codec.specs.Making.{with_links}
use Rattle.lsa_codec.proofs.Relinked.{AreKept, kept_removed}
use Rattle.lsa_codec.proofs.Rewritten.{link_rewritten}
use Rattle.lsa_codec.proofs.lsa.Lsa.without_link.Goals as goal

pub with_links-requires : goal.with_links-requires
with_links-requires g c =
    let lsa : List ℕ = c.args.self.now in
    let kept = c.deref.ensures.value ∙ c.in_ok-kept.ensures ∙ ap (λ (b : List ℕ). remove (links_of b) (c.args.k - 1)) c.in-Some.ensures.0 in
    let are = subst (AreKept lsa) (sym kept) (kept_removed (c.args.k - 1) lsa c.in-Some.ensures.2 c.requires.router) in
    record { router = c.requires.router; links = are.links; shorter = are.shorter }

pub returns-clause-made : goal.returns-clause-made
returns-clause-made g c =
    let lsa : List ℕ = c.args.self.now in
    let kept = c.deref.ensures.value ∙ c.in_ok-kept.ensures ∙ ap (λ (b : List ℕ). remove (links_of b) (c.args.k - 1)) c.in-Some.ensures.0 in
    let numbered : is_some (link_numbered c.args.k lsa) ≡ true =
    ap (λ (b : List ℕ). is_some (link_numbered c.args.k b)) (sym c.in-Some.ensures.0) ∙ ap is_some (sym c.link_numbered.ensures) ∙ c.if-is_none.ensures in
    IfOk-weaker c.with_links.result _ _
    (λ new made. cond-true _ _ _ numbered ∙ ap Ok (sym (made ∙ ap (λ (ls : List Link). with_links ls lsa) kept))) c.with_links.ensures.made

pub returns-clause-keeps : goal.returns-clause-keeps
returns-clause-keeps g c =
    IfOk-weaker c.with_links.result _ _ (λ new made. link_rewritten c.args.k c.args.self.now new c.in-Some.ensures.2 c.requires.router made)
    (returns-clause-made g c)
