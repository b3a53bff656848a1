use Rattle.std.proofs.Common.{◌≡◌, ◌∙◌, List, ℕ, ap, subst}
use Rattle.std.proofs.lemmas.Result.{IfOk-weaker, IfErr-weaker}
use Rattle.byteorder.specs.Endian.{big_bytes}
use Rattle.lsa_codec.specs.Fields.{put_at, put_number}
use Rattle.lsa_remaking.specs.Making.{made, remeasured, IsRemakeFaultOf}
use Rattle.lsa_remaking.specs.Relinking.{count_left, counted_body, changed_body}
use Rattle.lsa_remaking.proofs.relinking.relink.Goals as goal

pub returns-clause-made : goal.returns-clause-made
returns-clause-made g c =
    let links = c.args.links.now in
    let body : c.deref.result.now ≡ changed_body links c.args.lsa.now =
    c.deref.ensures.value ∙ c.in_ok-body.ensures ∙ ap (changed_body links) c.bytes.ensures.bytes in
    let field = c.to_be_bytes.ensures ∙ ap (big_bytes 2) c.count_left-count.ensures in
    let counted : c.deref-2.result.now ≡ counted_body links c.args.lsa.now =
    c.deref-2.ensures.value ∙ c.in_ok-counted.ensures.put ∙ ap (λ (f : List ℕ). put_at 22 f c.deref.result.now) field
    ∙ ap (put_number 2 22 (count_left links)) body in
    IfOk-weaker c.remake.result _ _ (λ new is. is ∙ ap remeasured counted) c.remake.ensures.made

pub returns-clause-fault : goal.returns-clause-fault
returns-clause-fault g c =
    let links = c.args.links.now in
    let body : c.deref.result.now ≡ changed_body links c.args.lsa.now =
    c.deref.ensures.value ∙ c.in_ok-body.ensures ∙ ap (changed_body links) c.bytes.ensures.bytes in
    let counted : c.deref-2.result.now ≡ counted_body links c.args.lsa.now =
    c.deref-2.ensures.value ∙ c.in_ok-counted.ensures.put ∙ ap (λ (f : List ℕ). put_at 22 f c.deref.result.now)
    (c.to_be_bytes.ensures ∙ ap (big_bytes 2) c.count_left-count.ensures)
    ∙ ap (put_number 2 22 (count_left links)) body in
    IfErr-weaker c.remake.result _ _ (λ fault is. subst (λ (b : List ℕ). IsRemakeFaultOf fault (made b)) counted is) c.remake.ensures.fault
